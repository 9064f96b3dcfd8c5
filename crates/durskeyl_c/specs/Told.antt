-- What the number that a call answers tells C.
use Rattle.std.specs.Prelude.{◌≡◌, ◌<◌, ◌≤◌, ◌+◌, ℕ, List, slice_index_or}
use Rattle.wasm_types.specs.decoding.declared.error.ErrorKind.{ErrorKind}
use Rattle.wasm_types.specs.decoding.declared.error.ErrorKind.TheVariants.{EndOfData, MissingFeature, OutOfMemory, Failed, Other}
use Rattle.wasm_check_lines.specs.declared.causes.Cause.{Cause}
use Rattle.wasm_check_lines.specs.declared.causes.Cause.TheVariants.{Vectors, Limit, Feature, FixedLimit, Types, Another}
use Rattle.wasm_check_lines.specs.Limits.{place_of}
use Rattle.wasm_module_validator_import_export_places.specs.rules.Accepts.{AcceptsUnder}
use Rattle.wasm_module_validator.specs.Parts.{AcceptsPart}
use Rattle.wasm_module_validator_streaming.specs.declared.handing.PieceError.{PieceError}
use Rattle.wasm_module_validator_streaming.specs.declared.handing.PieceError.TheVariants as pieces
use Rattle.durskeyl_c.specs.declared.settings.DurskeylSettings.{DurskeylSettings}
use Rattle.durskeyl_c.specs.declared.fault.DurskeylFault.{DurskeylFault}
use Rattle.durskeyl_c.specs.Settings.{settings_in, AreSettings}

-- 0 only if the bytes spell a valid module by the settings; 3 if there was no memory, and 6 exactly if the settings are none: these two are
-- no verdict; any other number only if the bytes do not spell a valid module
pub record Told (code : ℕ) (s : DurskeylSettings) (bytes : List ℕ) : Type 0 where
  pub valid : code ≡ 0 → AcceptsUnder (settings_in s) bytes
  pub invalid : ¬ (code ≡ 0) → ¬ (code ≡ 3) → ¬ (code ≡ 6) → ¬ AcceptsUnder (settings_in s) bytes
  pub settings : code ≡ 6 → ¬ AreSettings s
  pub judged : ¬ AreSettings s → code ≡ 6

-- The same of one part in so many: 0 only if the part is accepted; 6 exactly if the settings are none, or there is no such part.
pub record ToldPart (code : ℕ) (s : DurskeylSettings) (part parts : ℕ) (bytes : List ℕ) : Type 0 where
  pub valid : code ≡ 0 → AcceptsPart (settings_in s) part parts bytes
  pub invalid : ¬ (code ≡ 0) → ¬ (code ≡ 3) → ¬ (code ≡ 6) → ¬ AcceptsUnder (settings_in s) bytes
  pub settings : code ≡ 6 → ¬ (AreSettings s × (part < parts))
  pub judged : ¬ (AreSettings s × (part < parts)) → code ≡ 6

-- the kinds of errors by their numbers, from 1
abbrev pub number_of : ErrorKind → ℕ
number_of (EndOfData h) = 1
number_of (MissingFeature f) = 2
number_of OutOfMemory = 3
number_of Failed = 4
number_of Other = 5

-- the number of what a module in pieces answers: of a refusal that of its kind, and 7 if an item is longer than may be held
abbrev pub number_in : PieceError → ℕ
number_in (pieces.Refused e) = number_of e.kind
number_in pieces.TooLong = 7

-- what a kind carries: how many bytes more would be wanted at least, or the bits of the missing feature
abbrev pub detail_of : ErrorKind → ℕ
detail_of (EndOfData h) = h
detail_of (MissingFeature f) = f.0
detail_of OutOfMemory = 0
detail_of Failed = 0
detail_of Other = 0

-- what is told of the limit that refused: 1 more than its place among the limits, or 0 if none did
abbrev pub limit_of : Cause → ℕ
limit_of (Limit limit) = place_of limit + 1
limit_of Vectors = 0
limit_of (Feature features) = 0
limit_of FixedLimit = 0
limit_of Types = 0
limit_of Another = 0

-- the text has at most 256 bytes, and a 0 after them
pub record IsEnded (f : DurskeylFault) : Type 0 where
  pub short : f.text_length ≤ 256
  pub ended : slice_index_or f.text f.text_length 1 ≡ 0
