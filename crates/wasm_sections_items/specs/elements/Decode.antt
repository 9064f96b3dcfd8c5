-- How element segments are read, where e reads a constant expression.
use Rattle.std.specs.Prelude.{◌≡◌, ℕ, ◌-◌, ◌==◌, nat_lt, List, Option, Some, None, if◌then◌else◌}
use Rattle.wasm_types.specs.decoding.declared.Refusal.TheVariants.{Other}
use Rattle.wasm_types.specs.decoding.Decoder.{Decoder, ◌>>=◌, pure, refuse, byte}
use Rattle.wasm_types.specs.decoding.Leb.{u32, listed}
use Rattle.wasm_types.specs.values.Reference.{Reference}
use Rattle.wasm_types.specs.values.Decode.{reference_type}
use Rattle.wasm_sections_items.specs.elements.Spells.{ElementMode, passive, active, declared, ElementItems, functions, expressions, ElementTree, any_function}

-- a segment of its parts
abbrev pub element_of : {C : Type 0} → ElementMode C → ElementItems C → ElementTree C
element_of m i = record { mode = m; items = i }

-- an offset in this table
abbrev pub placed_in : {C : Type 0} → Decoder C → Option ℕ → Decoder (ElementMode C)
placed_in e t = e >>= λ x. pure (active t x)

-- where it goes, by the two low bits of the flag
unfoldable pub mode_by : {C : Type 0} → Decoder C → ℕ → Decoder (ElementMode C)
mode_by e n = if n == 1 then pure passive else (if n == 3 then pure declared else (if n == 0 then placed_in e None else (u32 >>= λ t. placed_in e (Some t))))

-- a byte that is zero
abbrev pub zero_byte : ℕ → Decoder (Unit {0})
zero_byte b = if b == 0 then pure tt else refuse Other 1

-- the kind, which is not written where the bits are 0
unfoldable pub kind_by : ℕ → Decoder (Unit {0})
kind_by n = if n == 0 then pure tt else (byte >>= zero_byte)

-- the type, which is not written where the bits are 0
unfoldable pub type_by : ℕ → Decoder Reference
type_by n = if n == 0 then pure any_function else reference_type

-- functions, behind their kind
unfoldable pub functions_by : {C : Type 0} → ℕ → ElementMode C → Decoder (ElementTree C)
functions_by n m = kind_by n >>= λ u. listed u32 >>= λ ys. pure (element_of m (functions ys))

-- expressions, behind their type
unfoldable pub expressions_by : {C : Type 0} → Decoder C → ℕ → ElementMode C → Decoder (ElementTree C)
expressions_by e n m = type_by n >>= λ r. listed e >>= λ xs. pure (element_of m (expressions r xs))

-- what follows a flag; a flag above 7 is refused at its last byte
abbrev pub flag_after : {C : Type 0} → Decoder C → ℕ → Decoder (ElementTree C)
flag_after e f = if nat_lt 7 f then refuse Other 1 else
    (if nat_lt f 4 then (mode_by e f >>= functions_by f) else (mode_by e (f - 4) >>= expressions_by e (f - 4)))

-- an element segment
unfoldable pub element : {C : Type 0} → Decoder C → Decoder (ElementTree C)
element e = u32 >>= flag_after e

-- the same, where it is there
unfoldable pub segment : {C : Type 0} → Decoder C → Decoder (Option (ElementTree C))
segment e = element e >>= λ x. pure (Some x)
