-- Steps up from heap types.
use Rattle.std.proofs.Common.{◌≡◌, ◌≤◌, ◌∙◌, ◌+◌, ◌-◌, ◌/◌, ◌%◌, ℕ, zero, suc, Bool, false, List, [], ◌∷◌, ◌++◌, Some, refl, sym, subst, length, set, slice_get}
use Rattle.std.specs.Prelude.{◌==◌, All}
use Rattle.std.proofs.lemmas.Option.{slice_get_within, get_or_from_slice_get}
use Rattle.wasm_types.specs.trees.Types.{Abstract, ref, concrete, InnerOf, function, array_of, struct_of, continuation}
use Rattle.wasm_types.specs.trees.Trees.{TypeTree}
use Rattle.wasm_types.specs.trees.AbstractOrder.{AbstractBelow, same}
use Rattle.wasm_types.specs.trees.Below.{HeapBelow, IsAboveAbstract, itself, declared, expanded, is_shared, supertype, abstract_above, bottom_of}
use Rattle.wasm_types.specs.trees.Chains.{IsSound}
use Rattle.wasm_types.specs.trees.ValidGroup.{type_at}
use Rattle.wasm_types.specs.trees.laws.Below.{heap_reflexive, heap_transitive}
use Rattle.wasm_operator_validator_fast_tables.specs.declared.order.Step.{Step}
use Rattle.wasm_operator_validator_fast_tables.specs.Values.{abstract_of, heap_of, type_of, IsStep, AreSteps}
use Rattle.wasm_operator_validator_fast_tables.specs.Known.{IsAround}
use Rattle.wasm_operator_validator_fast_tables.proofs.Reaching.{is_reference}
use Rattle.wasm_operator_validator_fast_tables.proofs.Knowing.{of_pushed}
use Rattle.wasm_operator_validator_fast_tables.proofs.Standing.{heap_abstract, heap_defined}

-- ---- lists

-- what is read of a list of which one was replaced
of_set : {A : Type 0} (P : ℕ → A → Type 0) (xs : List A) (i : ℕ) (x : A) → ((k : ℕ) (y : A) → slice_get xs k ≡ Some y → P k y) → P i x
    → (k : ℕ) (y : A) → slice_get (set xs i x) k ≡ Some y → P k y
of_set P [] i x h p k y e = h k y e
of_set P (a ∷ xs) zero x h p zero y e = let s : x ≡ y = cc in subst (P zero) s p
of_set P (a ∷ xs) zero x h p (suc k) y e = h (suc k) y e
of_set P (a ∷ xs) (suc i) x h p zero y e = h zero y e
of_set P (a ∷ xs) (suc i) x h p (suc k) y e = of_set (λ n z. P (suc n) z) xs i x (λ n z f. h (suc n) z f) p k y e

-- what holds of all holds of each
pub at_each : {A : Type 0} (P : A → Type 0) (xs : List A) (i : ℕ) (x : A) → All P xs → slice_get xs i ≡ Some x → P x
at_each P xs i x all e = subst P (get_or_from_slice_get xs i x x e) (all i x (slice_get_within xs i x e))

-- ---- steps

bottoms_alike : (a b : InnerOf TypeTree) → abstract_above a ≡ abstract_above b → bottom_of a ≡ bottom_of b
bottoms_alike (function ps rs) (function qs ss) e = refl
bottoms_alike (function ps rs) (array_of y) e = cc
bottoms_alike (function ps rs) (struct_of ys) e = cc
bottoms_alike (function ps rs) (continuation f) e = cc
bottoms_alike (array_of x) (function qs ss) e = cc
bottoms_alike (array_of x) (array_of y) e = refl
bottoms_alike (array_of x) (struct_of ys) e = refl
bottoms_alike (array_of x) (continuation f) e = cc
bottoms_alike (struct_of xs) (function qs ss) e = cc
bottoms_alike (struct_of xs) (array_of y) e = refl
bottoms_alike (struct_of xs) (struct_of ys) e = refl
bottoms_alike (struct_of xs) (continuation f) e = cc
bottoms_alike (continuation g) (function qs ss) e = cc
bottoms_alike (continuation g) (array_of y) e = cc
bottoms_alike (continuation g) (struct_of ys) e = cc
bottoms_alike (continuation g) (continuation f) e = refl

-- the bottom type is below all that the type is declared below
below_all : (t : TypeTree) (a : Abstract) → IsSound t → is_shared t ≡ false → bottom_of (expanded t) ≡ a → IsAboveAbstract t false a
below_all t a sound alone is u d = (sym alone ∙ (sound u d).shared, sym is ∙ bottoms_alike (expanded t) (expanded u) (sound u d).constructor)

module _ (ids : List TypeTree) where
  -- a step that leads nowhere
  pub stays : (n : ℕ) → IsStep ids n (record { above = n; bottom = n; far = n; depth = 0 })
  stays n = record { up = heap_reflexive (heap_of ids n); far = heap_reflexive (heap_of ids n); down = heap_reflexive (heap_of ids n) }

  -- the same step, and further up
  pub reaches : (n : ℕ) (s : Step) (far depth : ℕ) → IsStep ids n s → HeapBelow (heap_of ids s.above) (heap_of ids far)
      → IsStep ids n (record { above = s.above; bottom = s.bottom; far = far; depth = depth })
  reaches n s far depth h over = record {
    up = h.up;
    far = heap_transitive (heap_of ids n) (heap_of ids s.above) (heap_of ids far) h.up over;
    down = h.down;
  }

  pub step_at : (n k : ℕ) (s : Step) → n ≡ k → IsStep ids k s → IsStep ids n s
  step_at n k s e h = subst (λ (j : ℕ). IsStep ids j s) (sym e) h

  -- one more
  pub steps_next : (steps news : List Step) (n : ℕ) (s : Step) → news ≡ steps ++ s ∷ [] → length steps ≡ n → AreSteps ids steps → IsStep ids n s → AreSteps ids news
  steps_next steps news n s e long all one =
      subst (λ (l : List Step). AreSteps ids l) (sym e) (of_pushed (IsStep ids) steps s all (subst (λ (k : ℕ). IsStep ids k s) (sym long) one))

  pub steps_stay : (steps news : List Step) (at : ℕ) → news ≡ steps ++ record { above = at; bottom = at; far = at; depth = 0 } ∷ [] → at ≡ length steps → AreSteps ids steps → AreSteps ids news
  steps_stay steps news at e long all = steps_next steps news at (record { above = at; bottom = at; far = at; depth = 0 }) e (sym long) all (stays at)

  pub steps_set : (steps : List Step) (place : ℕ) (s : Step) → AreSteps ids steps → IsStep ids place s → AreSteps ids (set steps place s)
  steps_set steps place s all one = of_set (IsStep ids) steps place s all one

  module _ (t : TypeTree) (n : ℕ) (s : Step) (sound : IsSound t) (alone : is_shared t ≡ false) (is : heap_of ids n ≡ concrete t) (around : IsAround (expanded t) s) where
    down : HeapBelow (heap_of ids s.bottom) (heap_of ids n)
    down = rw (heap_abstract ids s.bottom around.low, is) (below_all t (abstract_of s.bottom) sound alone around.bottom)

    -- to the abstract type right above
    pub step_abstract : IsStep ids n s
    step_abstract = record { up = above; far = subst (λ (k : ℕ). HeapBelow (heap_of ids n) (heap_of ids k)) (sym around.far) above; down = down }
      where
        above : HeapBelow (heap_of ids n) (heap_of ids s.above)
        above = rw (heap_abstract ids s.above around.high, is) (t, itself, alone, subst (λ (a : Abstract). AbstractBelow (abstract_above (expanded t)) a) around.above same)

    -- to the supertype
    pub step_declared : (above id : ℕ) → above ≡ 16 + id → supertype t ≡ Some (type_at ids id) → IsStep ids n (record { above = above; bottom = s.bottom; far = above; depth = 0 })
    step_declared above id e over = record { up = up; far = up; down = down }
      where
        up : HeapBelow (heap_of ids n) (heap_of ids above)
        up = rw (heap_defined ids above id e, is) (declared over itself)

-- the heap type that a reference refers to, by its code
pub heap_is : (ids : List TypeTree) (t : TypeTree) (b : Bool) (code : ℕ) → 8 ≤ code → type_of ids code ≡ ref b (concrete t) → heap_of ids ((code - 8) / 2) ≡ concrete t
heap_is ids t b code high e =
    let f : ref (code % 2 == 0) (heap_of ids ((code - 8) / 2)) ≡ ref b (concrete t) = sym (is_reference ids code high) ∙ e in cc
