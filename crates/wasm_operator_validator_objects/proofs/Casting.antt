-- Branches on casts.
use Rattle.std.proofs.Common.{◌≡◌, ◌↔◌, ◌∙◌, ℕ, Bool, true, false, IsTrue, List, [], ◌∷◌, ◌++◌, map, Option, Some, None, slice_get, if◌then◌else◌, refl, sym, ap, subst}
use Rattle.std.proofs.lemmas.List.{map-append}
use Rattle.wasm_types.specs.decoding.declared.error.ErrorKind.{ErrorKind}
use Rattle.wasm_types.specs.decoding.DenialLaws.{denies_from}
use Rattle.wasm_types.specs.trees.Types.{HeapOf, ref}
use Rattle.wasm_types.specs.trees.Trees.{TypeTree}
use Rattle.wasm_types.specs.trees.Below.{Below}
use Rattle.wasm_types.specs.values.declared.heap.HeapType.{HeapType}
use Rattle.wasm_types.specs.values.declared.value.ValType.{ValType}
use Rattle.wasm_types.specs.values.declared.value.ValType.TheVariants as vals
use Rattle.wasm_types.specs.values.Reference.{Reference}
use Rattle.wasm_operators_enums.specs.declared.gc.GcOperator.{GcOperator}
use Rattle.wasm_operator_validator_rules.specs.Operands.{ValueType, known, AllBelow, stack}
use Rattle.wasm_operator_validator_rules.specs.Aggregates.{heap_named, is_castable}
use Rattle.wasm_operator_validator_rules.specs.Objects.{IsCast, difference, null_left}
use Rattle.wasm_operator_validator_rules.specs.Taken.{Takes}
use Rattle.wasm_operator_validator_resources.specs.Meaning.{Meaning, type_in, heap_in, reference_in}
use Rattle.wasm_operator_validator_state.specs.Refusals.{Does}
use Rattle.wasm_operator_validator_state.specs.State.{State, label, types_in}
use Rattle.wasm_operator_validator_state.specs.Steps.{MayPop, Pushed, Exchanged}
use Rattle.wasm_operator_validator_state.specs.laws.Operands.{operand_refl, all_below_refl, all_below_trans}
use Rattle.wasm_operator_validator_control.specs.laws.Jumping.{stack_last}
use Rattle.wasm_operator_validator_stacks.specs.determined.laws.Types.{reference_is}
use Rattle.wasm_operator_validator_stacks.specs.determined.laws.Same.{same_trans}
use Rattle.wasm_operator_validator_stacks.specs.determined.laws.Usable.{fails}
use Rattle.wasm_operator_validator_objects.specs.Rows.{here, IsRow, HasNoRow, IsCastBranch, taken_by, left_by}
use Rattle.wasm_operator_validator_objects.specs.Casts.{IsCastable, IsNotCastable, IsCastOf, IsNoCast, left_over, AreTaken}

-- ---- the types of a cast

pub one_heap : (o : Option (HeapOf TypeTree)) (h k : HeapOf TypeTree) → o ≡ Some h → o ≡ Some k → k ≡ h
one_heap o h k e f = let x : ◌≡◌ {A = Option (HeapOf TypeTree)} (Some k) (Some h) = sym f ∙ e in cc

pub unnamed : (m : Meaning) (σ : State) (r : Reference) (w : HeapType) → w ≡ r.heap → heap_named (here m σ) w ≡ None → IsNotCastable m σ r
unnamed m σ r w i e h f k = let x : ◌≡◌ {A = Option (HeapOf TypeTree)} None (Some h) = sym (subst (λ (v : HeapType). heap_named (here m σ) v ≡ None) i e) ∙ f in cc

pub of_continuations : (m : Meaning) (σ : State) (r n : Reference) (w : HeapType) → w ≡ r.heap → heap_named (here m σ) w ≡ Some (heap_in m n.heap) → is_castable (heap_in m n.heap) ≡ false
    → IsNotCastable m σ r
of_continuations m σ r n w i e f h j k =
    let e' : heap_named (here m σ) r.heap ≡ Some (heap_in m n.heap) = subst (λ (v : HeapType). heap_named (here m σ) v ≡ Some (heap_in m n.heap)) i e in
    let x : h ≡ heap_in m n.heap = one_heap (heap_named (here m σ) r.heap) (heap_in m n.heap) h e' j in
    let y : false ≡ true = sym f ∙ sym (ap is_castable x) ∙ k in cc

pub castable : (m : Meaning) (σ : State) (r n : Reference) (w : HeapType) (b : Bool) → w ≡ r.heap → b ≡ r.nullable → n.nullable ≡ b → heap_named (here m σ) w ≡ Some (heap_in m n.heap)
    → is_castable (heap_in m n.heap) ≡ true → IsCastable m σ r n
castable m σ r n w b i j k e f = record {
  nullable = k ∙ j;
  heap = subst (λ (v : HeapType). heap_named (here m σ) v ≡ Some (heap_in m n.heap)) i e;
  castable = f;
}

pub first_not : (m : Meaning) (σ : State) (from to : Reference) → IsNotCastable m σ from → IsNoCast m σ from to
first_not m σ from to n h k i = n h i.from_named i.from_castable

pub second_not : (m : Meaning) (σ : State) (from to : Reference) → IsNotCastable m σ to → IsNoCast m σ from to
second_not m σ from to n h k i = n k i.to_named i.to_castable

-- the second is below the first, as written and as named
pub as_named : (m : Meaning) (r n : Reference) → n.nullable ≡ r.nullable → type_in m (vals.Ref n) ≡ ref r.nullable (heap_in m n.heap)
as_named m r n e = reference_is m n ∙ ap (λ (b : Bool). ref b (heap_in m n.heap)) e

pub not_below : (m : Meaning) (σ : State) (from to first second : Reference) (b : Bool) → IsCastable m σ from first → IsCastable m σ to second
    → IsTrue b ↔ Below (type_in m (vals.Ref second)) (type_in m (vals.Ref first)) → b ≡ false → IsNoCast m σ from to
not_below m σ from to first second b i j e f h k c =
    let x : h ≡ heap_in m first.heap = one_heap (heap_named (here m σ) from.heap) (heap_in m first.heap) h i.heap c.from_named in
    let y : k ≡ heap_in m second.heap = one_heap (heap_named (here m σ) to.heap) (heap_in m second.heap) k j.heap c.to_named in
    let p : Below (ref to.nullable (heap_in m second.heap)) (ref from.nullable (heap_in m first.heap)) = rw (x, y) at c.below in
    fails b e f (rw (as_named m to second j.nullable, as_named m from first i.nullable) p)

pub is_cast : (m : Meaning) (σ : State) (from to first second : Reference) (b : Bool) → IsCastable m σ from first → IsCastable m σ to second
    → IsTrue b ↔ Below (type_in m (vals.Ref second)) (type_in m (vals.Ref first)) → b ≡ true → IsCastOf m σ from to first second
is_cast m σ from to first second b i j e f = record {
  first_nullable = i.nullable;
  second_nullable = j.nullable;
  cast = record {
    from_named = i.heap;
    to_named = j.heap;
    from_castable = i.castable;
    to_castable = j.castable;
    below = rw (as_named m to second j.nullable, as_named m from first i.nullable) at (e.0 f);
  };
}

-- ---- rows

pub no_cast_row : (m : Meaning) (σ : State) (o : GcOperator) (l : ℕ) (from to : Reference) (fails : Bool) → IsCastBranch o l from to fails → IsNoCast m σ from to → HasNoRow m σ o
no_cast_row m σ o l from to f i n popped pushed r = let (h, k, c, b) = (i (here m σ) popped pushed).0 r in n h k c

abbrev pub LabelAt : Meaning → State → ℕ → Option (List ValueType)
LabelAt m σ l = slice_get (map (label m) σ.opens) l

pub no_label_row : (m : Meaning) (σ : State) (o : GcOperator) (l : ℕ) (from to : Reference) (fails : Bool) → IsCastBranch o l from to fails → LabelAt m σ l ≡ None → HasNoRow m σ o
no_label_row m σ o l from to f i e popped pushed r =
    let (h, k, c, (ts, (u, j, b), t)) = (i (here m σ) popped pushed).0 r in
    let x : ◌≡◌ {A = Option (List ValueType)} None (Some (ts ++ u ∷ [])) = sym e ∙ j in cc

pub nothing_last : (ts : List ValueType) (u : ValueType) → ts ++ u ∷ [] ≡ [] → ⊥
nothing_last [] u e = cc
nothing_last (t ∷ ts) u e = cc

pub empty_label_row : (m : Meaning) (σ : State) (o : GcOperator) (l : ℕ) (from to : Reference) (fails : Bool) (vs : List ValType) → IsCastBranch o l from to fails
    → LabelAt m σ l ≡ Some (types_in m vs) → vs ≡ [] → HasNoRow m σ o
empty_label_row m σ o l from to f vs i e z popped pushed r =
    let (h, k, c, (ts, (u, j, b), t)) = (i (here m σ) popped pushed).0 r in
    let x : ◌≡◌ {A = Option (List ValueType)} (Some (ts ++ u ∷ [])) (Some (types_in m vs)) = sym j ∙ e in
    let y : ts ++ u ∷ [] ≡ types_in m vs = cc in
    nothing_last ts u (y ∙ ap (types_in m) z)

-- lists with one item more are equal part by part
parts : {A : Type 0} (xs ys : List A) (x y : A) → xs ++ x ∷ [] ≡ ys ++ y ∷ [] → (xs ≡ ys) × (x ≡ y)
parts [] [] x y e = (refl, cc)
parts [] (w ∷ []) x y e = absurd cc
parts [] (w ∷ v ∷ ys) x y e = absurd cc
parts (z ∷ []) [] x y e = absurd cc
parts (z ∷ u ∷ xs) [] x y e = absurd cc
parts (z ∷ xs) (w ∷ ys) x y e =
    let h : z ≡ w = cc in
    let t : xs ++ x ∷ [] ≡ ys ++ y ∷ [] = cc in
    let (f, g) = parts xs ys x y t in (rw (h, f) refl, g)

pub label_parts : (m : Meaning) (σ : State) (l : ℕ) (vs os : List ValType) (v : ValType) (ts : List ValueType) (u : ValueType) → LabelAt m σ l ≡ Some (types_in m vs) → vs ≡ os ++ v ∷ []
    → LabelAt m σ l ≡ Some (ts ++ u ∷ []) → (ts ≡ types_in m os) × (u ≡ type_in m v)
label_parts m σ l vs os v ts u e z j =
    let x : ◌≡◌ {A = Option (List ValueType)} (Some (ts ++ u ∷ [])) (Some (types_in m vs)) = sym j ∙ e in
    let y : ts ++ u ∷ [] ≡ types_in m vs = cc in
    parts ts (types_in m os) u (type_in m v) (y ∙ ap (types_in m) z ∙ map-append (type_in m) os (v ∷ []))

pub same_types : (m : Meaning) (σ : State) (from to first second : Reference) (h k : HeapOf TypeTree) → IsCastOf m σ from to first second → IsCast (here m σ) from to h k
    → (h ≡ heap_in m first.heap) × (k ≡ heap_in m second.heap)
same_types m σ from to first second h k i c = (
  one_heap (heap_named (here m σ) from.heap) (heap_in m first.heap) h i.cast.from_named c.from_named,
  one_heap (heap_named (here m σ) to.heap) (heap_in m second.heap) k i.cast.to_named c.to_named,
)

-- the code's types of what is taken and left are those of the rules
abbrev pub IsTaken : Meaning → Bool → Reference → Reference → Reference → Reference → ValType → ValType → Type 0
IsTaken m f from to first second taken left = (type_in m taken ≡ taken_by f (ref to.nullable (heap_in m second.heap)) (difference from to (heap_in m first.heap)))
    × (type_in m left ≡ left_by f (ref to.nullable (heap_in m second.heap)) (difference from to (heap_in m first.heap)))

pub carries_other_row : (m : Meaning) (σ : State) (o : GcOperator) (l : ℕ) (from to first second : Reference) (f : Bool) (vs os : List ValType) (v taken left : ValType) (b : Bool)
    → IsCastBranch o l from to f → IsCastOf m σ from to first second → LabelAt m σ l ≡ Some (types_in m vs) → vs ≡ os ++ v ∷ [] → IsTaken m f from to first second taken left
    → IsTrue b ↔ Below (type_in m taken) (type_in m v) → b ≡ false → HasNoRow m σ o
carries_other_row m σ o l from to first second f vs os v taken left b i c e z w j n popped pushed r =
    let (h, k, d, (ts, (u, y, q), t)) = (i (here m σ) popped pushed).0 r in
    let s = same_types m σ from to first second h k c d in
    let p = label_parts m σ l vs os v ts u e z y in
    let q' : Below (taken_by f (ref to.nullable (heap_in m second.heap)) (difference from to (heap_in m first.heap))) (type_in m v) = rw (s.0, s.1, p.1) at q in
    fails b j n (rw w.0 q')

pub branch_row : (m : Meaning) (σ : State) (o : GcOperator) (l : ℕ) (from to first second : Reference) (f : Bool) (vs os : List ValType) (v taken left : ValType) (b : Bool)
    → IsCastBranch o l from to f → IsCastOf m σ from to first second → LabelAt m σ l ≡ Some (types_in m vs) → vs ≡ os ++ v ∷ [] → IsTaken m f from to first second taken left
    → IsTrue b ↔ Below (type_in m taken) (type_in m v) → b ≡ true
    → IsRow m σ o (types_in m os ++ type_in m (vals.Ref first) ∷ []) (types_in m os ++ type_in m left ∷ [])
branch_row m σ o l from to first second f vs os v taken left b i c e z w j n popped pushed =
    let hs = heap_in m first.heap in
    let ks = heap_in m second.heap in
    let cast : type_in m (vals.Ref first) ≡ ref from.nullable hs = as_named m from first c.first_nullable in
    let there : LabelAt m σ l ≡ Some (types_in m os ++ type_in m v ∷ []) = e ∙ ap (λ (x : List ValType). Some (types_in m x)) z ∙ ap (λ (x : List ValueType). Some x) (map-append (type_in m) os (v ∷ [])) in
    rw (cast, w.1) (
      λ r. (
          let (h, k, d, (ts, (u, y, q), t)) = (i (here m σ) popped pushed).0 r in
          let s = same_types m σ from to first second h k c d in
          let p = label_parts m σ l vs os v ts u e z y in
          let t' : Takes (ts ++ ref from.nullable hs ∷ []) (ts ++ left_by f (ref to.nullable ks) (difference from to hs) ∷ []) popped pushed = rw (s.0, s.1) at t in
          subst (λ (x : List ValueType). Takes (x ++ ref from.nullable hs ∷ []) (x ++ left_by f (ref to.nullable ks) (difference from to hs) ∷ []) popped pushed) p.0 t'
          ),
      λ t. (i (here m σ) popped pushed).1 (hs, ks, c.cast, (types_in m os, (type_in m v, there, rw w.0 at (j.0 n)), t)),
    )

-- ---- the code's types

pub difference_is : (m : Meaning) (from to first second : Reference) → first.nullable ≡ from.nullable → second.nullable ≡ to.nullable
    → type_in m (vals.Ref (left_over first second)) ≡ difference from to (heap_in m first.heap)
difference_is m from to first second e f = reference_is m (left_over first second) ∙ by_null second.nullable to.nullable f
  where
    by_null : (b c : Bool) → b ≡ c → reference_in m (if b then record first { nullable = false } else first) ≡ ref (null_left from.nullable c) (heap_in m first.heap)
    by_null true true h = refl
    by_null false false h = ap (λ (n : Bool). ref n (heap_in m first.heap)) e
    by_null true false h = cc
    by_null false true h = cc

pub are_taken : (m : Meaning) (σ : State) (from to first second : Reference) (f : Bool) (taken left : ValType) → IsCastOf m σ from to first second → AreTaken f first second taken left
    → IsTaken m f from to first second taken left
are_taken m σ from to first second true taken left c a =
    (ap (type_in m) a.0 ∙ difference_is m from to first second c.first_nullable c.second_nullable, ap (type_in m) a.1 ∙ as_named m to second c.second_nullable)
are_taken m σ from to first second false taken left c a =
    (ap (type_in m) a.0 ∙ as_named m to second c.second_nullable, ap (type_in m) a.1 ∙ difference_is m from to first second c.first_nullable c.second_nullable)

-- ---- what is exchanged

pub pushed_above : (r : Option ErrorKind) (m : Meaning) (σ ρ τ : State) (ts us : List ValueType) (t : ValueType) → Exchanged m σ ts us ρ → Does r (Pushed m ρ (stack (t ∷ [])) τ) (Unit {0})
    → Does r (Exchanged m σ ts (us ++ t ∷ []) τ) (MayPop m σ (stack ts))
pushed_above None m σ ρ τ ts us t x y = record {
  same = same_trans σ ρ τ x.same y.same;
  stacks = λ s. (
    λ c. let (mid, d, b) = (y.stacks s).0 c in
        let (rest, e, l) = (x.stacks mid).0 d in
        (rest, e, rw (stack_last us t) (all_below_trans (known t ∷ (stack us ++ rest)) (known t ∷ mid) s (operand_refl (known t), l) b)),
    λ (rest, d, b). (
        let b' : AllBelow (known t ∷ (stack us ++ rest)) s = rw (stack_last us t) at b in
        (y.stacks s).1 (stack us ++ rest, (x.stacks (stack us ++ rest)).1 (rest, d, all_below_refl (stack us ++ rest)), b')
        ),
  );
}
pushed_above (Some e) m σ ρ τ ts us t x y = denies_from e _ _ (λ z. tt) y
