-- Declared supertypes, one above the other (WebAssembly 3.0, validation, types, sub types). A list has for each type, by its id,
-- the supertype that it declares, or none.
use Rattle.std.specs.Prelude.{◌≡◌, ℕ, zero, suc, List, Option, Some, None, slice_get}
use Rattle.wasm_types.specs.trees.declared.index.CoreTypeId.{CoreTypeId}

-- an id is under itself, and under what the supertype that it declares is under
pub data IsUnder (supertypes : List (Option CoreTypeId)) : CoreTypeId → CoreTypeId → Type 0 where
  itself : {a : CoreTypeId} → IsUnder supertypes a a
  declared : {a b c : CoreTypeId} → slice_get supertypes a.0 ≡ Some (Some b) → IsUnder supertypes b c → IsUnder supertypes a c

-- how many types are declared above the type of an id
pub data HasDepth (supertypes : List (Option CoreTypeId)) : CoreTypeId → ℕ → Type 0 where
  top : {a : CoreTypeId} → slice_get supertypes a.0 ≡ Some None → HasDepth supertypes a zero
  below : {a b : CoreTypeId} {n : ℕ} → slice_get supertypes a.0 ≡ Some (Some b) → HasDepth supertypes b n → HasDepth supertypes a (suc n)
