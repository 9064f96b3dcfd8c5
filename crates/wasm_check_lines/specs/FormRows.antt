-- Worked lines.
use Rattle.std.specs.Prelude.{◌≡◌, ℕ, [], List, Option, codes}
use Rattle.wasm_types.specs.decoding.ErrorValue.{ErrorValue}
use Rattle.wasm_types.specs.decoding.declared.error.ErrorKind.TheVariants.{Other, MissingFeature}
use Rattle.wasm_types.specs.settings.Limits.{default_limits}
use Rattle.wasm_check_lines.specs.declared.causes.Cause.TheVariants.{Another}
use Rattle.wasm_check_lines.specs.Hints.{is_text, hint_for, hint_of}
use Rattle.wasm_check_lines.specs.Explanations.{note_line}
use Rattle.wasm_check_lines.specs.FeatureWords.{word_for}
use Rattle.wasm_check_lines.specs.Forms.{valid_line, invalid_line, hint_line, valid_object, invalid_object}
use Rattle.std.specs.Prelude.{true, false, Some, None}

-- an error of content
abbrev pub other_at : ℕ → List ℕ → ErrorValue
other_at offset message = record { kind = Other; offset = offset; message = message }

-- what a person can do about an error of content under the limits by default
abbrev pub helped : List ℕ → Option (List ℕ)
helped message = hint_of default_limits (other_at 0 message) []

pub record FormRows : Type 0 where
  pub named : valid_line (codes "a\n") ≡ codes "a\\u{a}: valid\n"
  pub refused : invalid_line (codes "a") (other_at 37 (codes "duplicate export name `\nv: valid\n` already defined"))
      ≡ codes "a: invalid at 0x25: duplicate export name `\\u{a}v: valid\\u{a}` already defined\n"
  pub vectors : helped (codes "unexpected SIMD opcode: 0xfd") ≡ Some (codes "--vectors judges operators on vectors")
  pub locals : helped (codes "too many locals: locals exceed maximum") ≡ Some (codes "--limits locals=N sets this limit")
  pub params : helped (codes "function params size is out of bounds") ≡ Some (codes "no option raises this limit")
  pub fewer_params : hint_of (record default_limits { params = 999 }) (other_at 0 (codes "function params size is out of bounds")) []
      ≡ Some (codes "--limits params=N sets this limit")
  pub memories : helped (codes "multiple memories") ≡ Some (codes "--features multi-memory allows it")
  pub types : helped (codes "type mismatch: expected i32, found i64") ≡ None
  pub text : hint_for default_limits Another (codes " \n(module)") ≡ Some (codes "this is the text format; wasm-check judges the binary format")
  pub other : helped (codes "x") ≡ None
  pub hint : hint_line (Some (codes "x")) ≡ codes "  x\n"
  pub no_hint : hint_line None ≡ []
  pub spaced : is_text (codes "\t\r\n (module $m)") ≡ true
  pub cut : is_text (codes "(modul") ≡ false
  pub component : is_text (codes "(component)") ≡ false
  pub behind : is_text (codes "x(module") ≡ false
  pub nothing : is_text [] ≡ false
  pub gc : word_for 0x80000 ≡ Some (codes "gc")
  pub two_bits : word_for 0x2000008 ≡ Some (codes "reference-types")
  pub part : word_for 0x8 ≡ None
  pub last : word_for 0x8000000 ≡ Some (codes "custom-descriptors")
  pub switch : word_for 0x10000000 ≡ None
  pub note : note_line (codes "b\n") ≡ codes "  b\\u{a}\n"
  pub valid_json : valid_object (codes "a\"\\\n") ≡ codes "{\"file\":\"a\\\"\\\\\\u000a\",\"valid\":true}\n"
  pub invalid_json : invalid_object (codes "a") default_limits (other_at 255 (codes "m")) [] None
      ≡ codes "{\"file\":\"a\",\"valid\":false,\"offset\":255,\"kind\":\"other\",\"message\":\"m\"}\n"
  pub types_json : invalid_object (codes "a") default_limits (other_at 1 (codes "type mismatch")) [] None
      ≡ codes "{\"file\":\"a\",\"valid\":false,\"offset\":1,\"kind\":\"types\",\"message\":\"type mismatch\"}\n"
  pub feature_json : invalid_object (codes "a") default_limits (record { kind = MissingFeature (record { 0 = 0x80000 }); offset = 1; message = codes "m" }) [] None
      ≡ codes "{\"file\":\"a\",\"valid\":false,\"offset\":1,\"kind\":\"missing-feature\",\"message\":\"m\",\"feature\":\"gc\",\"hint\":\"--features gc allows it\"}\n"
  pub component_json : invalid_object (codes "a") default_limits (record { kind = MissingFeature (record { 0 = 0x10000 }); offset = 0; message = codes "m" }) [] None
      ≡ codes "{\"file\":\"a\",\"valid\":false,\"offset\":0,\"kind\":\"other\",\"message\":\"m\"}\n"
  pub limit_json : invalid_object (codes "a") default_limits (other_at 1 (codes "struct fields size is out of bounds")) [] None
      ≡ codes "{\"file\":\"a\",\"valid\":false,\"offset\":1,\"kind\":\"limit\",\"message\":\"struct fields size is out of bounds\",\"limit\":\"fields\",\"hint\":\"--limits fields=N sets this limit\"}\n"
