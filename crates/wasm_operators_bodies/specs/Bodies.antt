-- A function's body as it stands in the code section (WebAssembly 3.0, binary format, modules, code section).
use Rattle.std.specs.Prelude.{◌≡◌, ℕ, List, length, ◌++◌}
use Rattle.wasm_types.specs.decoding.Decoder.{State, Decoder, Done, ◌>>=◌, pure}
use Rattle.wasm_types.specs.decoding.Leb.{IsUnsigned}
use Rattle.wasm_types.specs.reader.Parts.{counted_part}
use Rattle.wasm_operators_encoding.specs.Locals.{LocalGroup, locals}

-- a size, and as many bytes, which are the body's
pub record SpelledBody (body : List ℕ) (text : List ℕ) : Type 0 where
  pub size : List ℕ
  pub counted : IsUnsigned 32 (length body) size
  pub whole : text ≡ size ++ body

-- the bytes of a part behind its size
unfoldable pub body_bytes : Decoder (List ℕ)
body_bytes = counted_part >>= λ part. pure part.rest

-- groups of locals stand at the front of s, and behind them, where t stands, the operators begin
abbrev pub OperatorsBegin : State → State → Type 0
OperatorsBegin s t = (gs : List LocalGroup) × (locals s.settings s ≡ Done gs t)
