-- How globals and data segments are read, where e reads a constant expression.
use Rattle.std.specs.Prelude.{ℕ, ◌==◌, List, if◌then◌else◌}
use Rattle.wasm_types.specs.decoding.declared.Refusal.TheVariants.{Other}
use Rattle.wasm_types.specs.decoding.Decoder.{Decoder, ◌>>=◌, pure}
use Rattle.wasm_types.specs.decoding.Leb.{u32}
use Rattle.wasm_types.specs.decoding.Lists.{refuse_at}
use Rattle.wasm_types.specs.externs.declared.global.GlobalType.{GlobalType}
use Rattle.wasm_types.specs.externs.Decode.{global_type}
use Rattle.wasm_sections_items.specs.frames.Decode.{counted_bytes}
use Rattle.wasm_sections_items.specs.segments.Spells.{GlobalTree, DataMode, passive, active, DataTree}

-- a global of its parts
abbrev pub global_of : {C : Type 0} → GlobalType → C → GlobalTree C
global_of t x = record { ty = t; init = x }

-- a type and an expression
unfoldable pub global : {C : Type 0} → Decoder C → Decoder (GlobalTree C)
global e = global_type >>= λ t. e >>= λ x. pure (global_of t x)

-- a data segment of its parts
abbrev pub data_of : {C : Type 0} → DataMode C → List ℕ → DataTree C
data_of m b = record { mode = m; content = b }

-- the bytes of a segment that is used so
abbrev pub content : {C : Type 0} → DataMode C → Decoder (DataTree C)
content m = counted_bytes >>= λ b. pure (data_of m b)

-- an offset in this memory, and the bytes
abbrev pub placed_in : {C : Type 0} → Decoder C → ℕ → Decoder (DataTree C)
placed_in e m = e >>= λ x. content (active m x)

-- what follows a flag; another flag is refused where the segment begins
abbrev pub after_flag : {C : Type 0} → Decoder C → ℕ → ℕ → Decoder (DataTree C)
after_flag e place f = if f == 1 then content passive else
    (if f == 0 then placed_in e 0 else (if f == 2 then (u32 >>= placed_in e) else refuse_at Other place))

-- a flag, and what follows it
unfoldable pub data_segment : {C : Type 0} → Decoder C → Decoder (DataTree C)
data_segment e s = (u32 >>= after_flag e s.place) s
