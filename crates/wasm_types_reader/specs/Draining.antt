-- What is read of values that nobody wants.
use Rattle.std.specs.Prelude.{◌≡◌, ℕ, zero, suc, ◌⊎◌, Bool, Err}
use Rattle.wasm_types_decoding.specs.Decoder.{State, Done, Decoder}
use Rattle.wasm_types_decoding.specs.ErrorValue.{ErrorValue}
use Rattle.wasm_types_reader.specs.Reading.{Fails, MemoryOnlyIf}

-- From s to t n values are read, or as many as come before one that is refused; a refusal leaves the reader, and is one
-- for memory only where a value takes memory.
unfoldable pub Drains : {Y : Type 0} → Decoder Y → Bool → ℕ → State → State → Type 0
Drains d takes_memory zero s t = t ≡ s
Drains {Y} d takes_memory (suc n) s t =
    ((x : Y) × (m : State) × (d s ≡ Done x m) × Drains d takes_memory n m t)
    ⊎ ((e : ErrorValue) × Fails e (d s) × MemoryOnlyIf {X = Y} takes_memory (Err e) × (t ≡ s))
