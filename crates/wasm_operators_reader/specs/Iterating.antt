-- What an iterator of operators gives.
use Rattle.std.specs.Prelude.{◌≡◌, ◌⊎◌, ℕ, Bool, true, false, [], length, Result, Ok, Err, Option, Some, None}
use Rattle.wasm_types.specs.decoding.ErrorValue.{ErrorValue}
use Rattle.wasm_types.specs.reader.Reading.{IsNotMemory}
use Rattle.wasm_operators_reader.specs.Standing.{Standing, Refuses, WantsMemory}

-- The next item, of which `reads` says what was read of it and where the reader stands behind it: one operator after the other,
-- and last an error, if one is refused. Nothing comes behind an error, or where no byte is left.
abbrev pub NextOf : {X : Type 0} → (Standing → X → Standing → Type 0) → Standing → Bool → Option (Result X ErrorValue) → Standing → Bool
    → Type 0
NextOf reads s failed None t after = ((failed ≡ true) ⊎ (s.bytes.rest ≡ [])) × (t ≡ s) × (after ≡ failed)
NextOf reads s failed (Some (Ok x)) t after = (failed ≡ false) × (after ≡ false) × reads s x t
NextOf reads s failed (Some (Err e)) t after = (failed ≡ false) × (after ≡ true) × (s.bytes.rest ≡ [] → ⊥) × Refuses s e × (t ≡ s)
    × ((WantsMemory s → ⊥) → IsNotMemory e.kind)

-- no more items come than this: each operator has a byte
abbrev pub items_left : Bool → Standing → ℕ
items_left true s = 0
items_left false s = length s.bytes.rest
