-- That numbers stay within the bits of their types (WebAssembly 3.0, execution, runtime structure, values): an i32 below 2^32, and so on, in a
-- state and in a store, as long as no array and no table has too many elements.
use Rattle.std.specs.Prelude.{ℕ, length, slice_get}
use Rattle.wasm_types.specs.trees.Types.{i32}
use Rattle.wasm_operator_validator_soundness.specs.runs.Values.{Program, number_value}
use Rattle.wasm_operator_validator_soundness.specs.runs.States.{State, Answer}
use Rattle.wasm_operator_validator_soundness.specs.runs.Soundness.{step}
use Rattle.wasm_operator_validator_store.specs.Stores.{ObjectInstance, Store, IsWithin, sized, pages_held, table_in, memory_at}
use Rattle.wasm_operator_validator_store.specs.ValidStores.{Each, InWidth, StoreInWidth, HasState, HasOutcome}
use Rattle.wasm_operator_validator_store.specs.Giving.{is_wide, is_wide_memory, GivesStep}

-- each length is a number that an operator can give
pub record SizesInWidth (p : Program) (s : Store) : Type 0 where
  pub arrays : Each (λ (o : ObjectInstance). IsWithin (number_value i32 (length o.fields))) s.objects
  pub tables : (x : ℕ) → IsWithin (sized (is_wide (slice_get p.«module».tables x)) (length (table_in s x)))
  pub memories : (x : ℕ) → IsWithin (sized (is_wide_memory (slice_get p.«module».memories x)) (pages_held (memory_at s x)))

-- the theorem: whether or not all fits
abbrev pub WidthsAreKept : Type 0
WidthsAreKept = (p : Program) (x : State) (s : Store) (a : Answer) (u : Store) → GivesStep p x s a u → HasState InWidth x
    → StoreInWidth s → SizesInWidth p s → HasOutcome InWidth (step p x a).outcome × StoreInWidth u
