-- What a walk up a table of steps tells.
use Rattle.std.proofs.Common.{◌≡◌, ◌≤◌, ◌-◌, ◌/◌, ◌%◌, ℕ, List, [], ◌∷◌, Some, slice_get, refl, subst, le-ltb}
use Rattle.std.specs.Prelude.{◌==◌}
use Rattle.wasm_types.specs.trees.Types.{ref}
use Rattle.wasm_types.specs.trees.Trees.{TypeTree}
use Rattle.wasm_types.specs.trees.Below.{HeapBelow}
use Rattle.wasm_types.specs.trees.laws.Below.{heap_reflexive, heap_transitive}
use Rattle.wasm_operator_validator_rules.specs.Operands.{AllBelow}
use Rattle.wasm_operator_validator_state.specs.laws.Operands.{all_below_refl}
use Rattle.wasm_operator_validator_fast_tables.specs.declared.order.Step.{Step}
use Rattle.wasm_operator_validator_fast_tables.specs.Values.{heap_of, type_of, operands, IsStep, AreSteps, AreBelow}

module _ (ids : List TypeTree) where
  pub heaps_same : (n m : ℕ) → n ≡ m → HeapBelow (heap_of ids n) (heap_of ids m)
  heaps_same n m e = subst (λ (k : ℕ). HeapBelow (heap_of ids n) (heap_of ids k)) e (heap_reflexive (heap_of ids n))

  -- some steps more
  pub next_above : (steps : List Step) → AreSteps ids steps → (n at m : ℕ) (s : Step) → HeapBelow (heap_of ids n) (heap_of ids at) → slice_get steps at ≡ Some s
      → ((k : ℕ) → IsStep ids k s → HeapBelow (heap_of ids k) (heap_of ids m)) → HeapBelow (heap_of ids n) (heap_of ids m)
  next_above steps all n at m s below there leads = heap_transitive (heap_of ids n) (heap_of ids at) (heap_of ids m) below (leads at (all at s there))

  -- twice far up
  pub far_twice : (steps : List Step) → AreSteps ids steps → (n : ℕ) (s t : Step) → slice_get steps n ≡ Some s → slice_get steps s.far ≡ Some t → HeapBelow (heap_of ids n) (heap_of ids t.far)
  far_twice steps all n s t there then =
      heap_transitive (heap_of ids n) (heap_of ids s.far) (heap_of ids t.far) (all n s there).far (all s.far t then).far

  pub bottom_below : (steps : List Step) → AreSteps ids steps → (n m : ℕ) (s : Step) → slice_get steps m ≡ Some s → s.bottom ≡ n → HeapBelow (heap_of ids n) (heap_of ids m)
  bottom_below steps all n m s there is = subst (λ (k : ℕ). HeapBelow (heap_of ids k) (heap_of ids m)) is (all m s there).down

  pub is_reference : (n : ℕ) → 8 ≤ n → type_of ids n ≡ ref (n % 2 == 0) (heap_of ids ((n - 8) / 2))
  is_reference n high = rw (le-ltb n 8 high) refl

pub same_below : (steps : List Step) (n m : ℕ) → n ≡ m → AreBelow steps (n ∷ []) (m ∷ [])
same_below steps n m e ids are = subst (λ (k : ℕ). AllBelow (operands ids (n ∷ [])) (operands ids (k ∷ []))) e (all_below_refl (operands ids (n ∷ [])))
