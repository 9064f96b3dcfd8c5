-- Operators that were read at an offset in a slice and told to a visitor.
use Rattle.std.specs.Prelude.{◌≡◌, ℕ, ◌+◌, ◌<◌, List, length, get_or, IsTrue, true, false, Option, Some, None}
use Rattle.wasm_types.specs.decoding.Leb.{u32}
use Rattle.wasm_types.specs.settings.declared.Limits.{Limits}
use Rattle.wasm_types.specs.settings.Settings.{Settings}
use Rattle.wasm_types.specs.decoding.Numbers.{GivesAt}
use Rattle.wasm_operators_enums.specs.Op.{Op}
use Rattle.wasm_operators_enums.specs.Immediates.{is_canonical}
use Rattle.wasm_operators_enums.specs.Table.{info_of}
use Rattle.wasm_operators_enums.specs.Vectors.{is_simd}
use Rattle.wasm_operators_encoding.specs.Opcodes.{is_prefix}
use Rattle.wasm_operators_encoding.specs.Coded.{operator}
use Rattle.wasm_operators_encoding.specs.Operators.{coded_of}

-- these features, within any limits
abbrev pub within : ℕ → Limits → Settings
within features limits = record { features = features; limits = limits }

-- an opcode's first byte is its prefix, or the code where it has none
abbrev pub BeginsWith : Option ℕ → ℕ → ℕ → Type 0
BeginsWith None code b = code ≡ b
BeginsWith (Some p) code b = (p ≡ b) × (is_prefix b ≡ true)

-- Wherever in an input these bytes stand, and whatever the limits, those from one offset to the other are read as an operator,
-- which begins with the byte that stands there and is none on vectors, and of which this holds.
pub record IsTold (features : ℕ) (text : List ℕ) (at_offset end_offset : ℕ) (Told : Op → Type 0) : Type 0 where
  pub op : Op
  pub canonical : IsTrue (is_canonical op)
  pub begins : BeginsWith (info_of op).prefix (info_of op).code (get_or text at_offset 0)
  pub no_vector : is_simd op ≡ false
  pub reads : (limits : Limits) → GivesAt (operator (within features limits)) text at_offset (coded_of op) end_offset
  pub told : Told op

-- this byte stands at this offset
pub record Begins (text : List ℕ) (at_offset : ℕ) (code : ℕ) : Type 0 where
  pub inside : at_offset < length text
  pub code_there : get_or text at_offset 0 ≡ code

-- this prefix stands at this offset, and behind it a code, which ends before another offset
pub record BeginsPrefixed (text : List ℕ) (at_offset prefix code end_offset : ℕ) : Type 0 where
  pub prefix_there : Begins text at_offset prefix
  pub code_there : GivesAt u32 text (at_offset + 1) code end_offset
