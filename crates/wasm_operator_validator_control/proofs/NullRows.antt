-- The rows of references without null and of branches on null.
use Rattle.std.proofs.Common.{◌≡◌, ◌↔◌, ◌∙◌, ℕ, List, [], ◌∷◌, ◌++◌, Bool, true, false, Option, Some, None, refl, sym, ap, subst, map, reverse, slice_get}
use Rattle.std.proofs.lemmas.List.{reverse-append, map-append}
use Rattle.wasm_types.specs.decoding.declared.error.ErrorKind.{ErrorKind}
use Rattle.wasm_types.specs.decoding.Denials.{Denies}
use Rattle.wasm_types.specs.decoding.DenialLaws.{denies, denies_from}
use Rattle.wasm_types.specs.trees.Types.{HeapOf, number, ref, abstract}
use Rattle.wasm_types.specs.trees.Trees.{TypeTree}
use Rattle.wasm_types.specs.values.declared.value.ValType.{ValType}
use Rattle.wasm_types.specs.values.Reference.{Reference}
use Rattle.wasm_types.specs.values.declared.value.ValType.TheVariants as vals
use Rattle.wasm_types.specs.values.Trees.{abstract_of}
use Rattle.wasm_operators_immediates.specs.declared.proposal.Proposal.TheVariants.{FunctionReferences}
use Rattle.wasm_operators_enums.specs.declared.control.ControlOperator.TheVariants as control
use Rattle.wasm_operators_enums.specs.Op as op
use Rattle.wasm_operators_enums.specs.Op.{Op}
use Rattle.wasm_operator_validator_rules.specs.Operands.{ValueType, Operand, bottom, some_reference, known, IsReference, OperandBelow, AllBelow, all_known, stack}
use Rattle.wasm_operator_validator_rules.specs.Row.{Takes, GroupRow, not_null}
use Rattle.wasm_operator_validator_state.specs.resources.Meaning.{Meaning, type_in, heap_in}
use Rattle.wasm_operator_validator_state.specs.Refusals.{Does}
use Rattle.wasm_operator_validator_state.specs.declared.operand.MaybeType.{MaybeType}
use Rattle.wasm_operator_validator_state.specs.declared.operand.MaybeType.TheVariants as maybe
use Rattle.wasm_operator_validator_state.specs.State.{State, Stands, initialised, context, types_in, label, Accepts, Decides, Checks}
use Rattle.wasm_operator_validator_state.specs.Steps.{Stacks, MayPop, MayPopAny, PoppedAny, PushedAny, Exchanged}
use Rattle.wasm_operator_validator_state.specs.laws.Operands.{operand_refl, all_below_refl}
use Rattle.wasm_operator_validator_state.specs.laws.Rows.{Reached, Least, by_row, some_row}
use Rattle.wasm_operator_validator_state.specs.Entering.{MayBegin}
use Rattle.wasm_operator_validator_state.specs.laws.Entering.{enabled}
use Rattle.wasm_operator_validator_state.specs.laws.Checks.{checks_going}
use Rattle.wasm_operator_validator_stacks.specs.determined.Operators.{IsPlain, Stays}
use Rattle.wasm_operator_validator_stacks.specs.determined.laws.Same.{same_trans, stays_same, stays_trans}
use Rattle.wasm_operator_validator_stacks.specs.determined.laws.Determined.{refused_then, no_row}
use Rattle.wasm_operator_validator_control.specs.Nulls.{known_not_null, EndsIn, EndsInNone}
use Rattle.wasm_operator_validator_control.specs.laws.Jumping.{pops_last}
use Rattle.wasm_operator_validator_control.specs.laws.Labels.{one_label, not_labelled}

-- ---- what is known of a reference that is not null

-- it stands for what it was known to be
pub not_null_reached : (m : Meaning) (a b : MaybeType) → known_not_null a ≡ Some b → (n : Operand) → Stands m b n → (t : Operand) × IsReference t × Stands m a t × OperandBelow (not_null t) n
unfolding type_in
not_null_reached m maybe.Bottom b e n s =
    let h : maybe.UnknownRef None ≡ b = cc in
    let s' : Stands m (maybe.UnknownRef None) n = subst (λ (x : MaybeType). Stands m x n) (sym h) s in (some_reference, tt, tt, s')
not_null_reached m (maybe.UnknownRef None) b e n s =
    let h : maybe.UnknownRef None ≡ b = cc in
    let s' : Stands m (maybe.UnknownRef None) n = subst (λ (x : MaybeType). Stands m x n) (sym h) s in (some_reference, tt, tt, s')
not_null_reached m (maybe.UnknownRef (Some a)) b e n s =
    let h : maybe.UnknownRef (Some a) ≡ b = cc in
    let s' : Stands m (maybe.UnknownRef (Some a)) n = subst (λ (x : MaybeType). Stands m x n) (sym h) s in
    let t = known (ref false (abstract s'.0 (abstract_of a))) in (t, tt, (s'.0, operand_refl t), s'.1)
not_null_reached m (maybe.Known (vals.Ref r)) b e n s =
    let h : maybe.Known (vals.Ref (record r { nullable = false })) ≡ b = cc in
    let s' : Stands m (maybe.Known (vals.Ref (record r { nullable = false }))) n = subst (λ (x : MaybeType). Stands m x n) (sym h) s in
    let t = known (type_in m (vals.Ref r)) in (t, tt, operand_refl t, s')
not_null_reached m (maybe.Known vals.I32) b e n s = cc
not_null_reached m (maybe.Known vals.I64) b e n s = cc
not_null_reached m (maybe.Known vals.F32) b e n s = cc
not_null_reached m (maybe.Known vals.F64) b e n s = cc
not_null_reached m (maybe.Known vals.V128) b e n s = cc

-- and for no less
pub not_null_least : (m : Meaning) (a b : MaybeType) → known_not_null a ≡ Some b → (t : Operand) → IsReference t → Stands m a t → Stands m b (not_null t)
unfolding type_in
not_null_least m a b e bottom i s = absurd i
not_null_least m a b e (known (number n)) i s = absurd i
not_null_least m maybe.Bottom b e some_reference i s = let h : maybe.UnknownRef None ≡ b = cc in subst (λ (x : MaybeType). Stands m x some_reference) h tt
not_null_least m maybe.Bottom b e (known (ref n k)) i s = let h : maybe.UnknownRef None ≡ b = cc in subst (λ (x : MaybeType). Stands m x (known (ref false k))) h tt
not_null_least m (maybe.UnknownRef None) b e some_reference i s = let h : maybe.UnknownRef None ≡ b = cc in subst (λ (x : MaybeType). Stands m x some_reference) h tt
not_null_least m (maybe.UnknownRef None) b e (known (ref n k)) i s = let h : maybe.UnknownRef None ≡ b = cc in subst (λ (x : MaybeType). Stands m x (known (ref false k))) h tt
not_null_least m (maybe.UnknownRef (Some a)) b e some_reference i s = absurd s.1
not_null_least m (maybe.UnknownRef (Some a)) b e (known (ref n k)) i s =
    let h : maybe.UnknownRef (Some a) ≡ b = cc in subst (λ (x : MaybeType). Stands m x (known (ref false k))) h (s.0, (tt, s.1.1))
not_null_least m (maybe.Known (vals.Ref r)) b e some_reference i s = absurd s
not_null_least m (maybe.Known (vals.Ref r)) b e (known (ref n k)) i s =
    let h : maybe.Known (vals.Ref (record r { nullable = false })) ≡ b = cc in subst (λ (x : MaybeType). Stands m x (known (ref false k))) h (tt, s.1)
not_null_least m (maybe.Known vals.I32) b e t i s = cc
not_null_least m (maybe.Known vals.I64) b e t i s = cc
not_null_least m (maybe.Known vals.F32) b e t i s = cc
not_null_least m (maybe.Known vals.F64) b e t i s = cc
not_null_least m (maybe.Known vals.V128) b e t i s = cc

-- an operand of which something else is known is none
pub no_null : (m : Meaning) (a : MaybeType) (t : Operand) → known_not_null a ≡ None → IsReference t → Stands m a t → ⊥
unfolding type_in
no_null m maybe.Bottom t e i s = cc
no_null m (maybe.UnknownRef a) t e i s = cc
no_null m (maybe.Known (vals.Ref r)) t e i s = cc
no_null m (maybe.Known v) bottom e i s = i
no_null m (maybe.Known v) some_reference e i s = s
no_null m (maybe.Known v) (known (number n)) e i s = i
no_null m (maybe.Known vals.I32) (known (ref n h)) e i s = s
no_null m (maybe.Known vals.I64) (known (ref n h)) e i s = s
no_null m (maybe.Known vals.F32) (known (ref n h)) e i s = s
no_null m (maybe.Known vals.F64) (known (ref n h)) e i s = s
no_null m (maybe.Known vals.V128) (known (ref n h)) e i s = s

-- ---- ref.as_non_null

abbrev pub as_non_null : Op
as_non_null = op.Control control.RefAsNonNull

pub as_non_null_is : IsPlain as_non_null FunctionReferences false
as_non_null_is = record { of = refl; named = refl; plain = refl }

done : (k : Option ErrorKind) (m : Meaning) (σ ρ τ : State) (a b : MaybeType) → MayBegin σ FunctionReferences false → PoppedAny m σ a ρ → known_not_null a ≡ Some b
    → Does k (PushedAny m ρ b τ) (Unit {0}) → Decides m σ as_non_null k τ
done None m σ ρ τ a b i p e x =
    by_row m σ τ as_non_null refl (λ set. refl) (same_trans σ ρ τ p.same x.same) reached
    (λ popped pushed rest (u, (v, j, f, g)) d.
    let d' : Stacks m σ (v ∷ rest) = rw f at d in
    let (s, c) = (p.stacks v rest).0 d' in
    rw g ((x.stacks (not_null v ∷ rest)).1 (not_null_least m a b e v j s, c)))
  where
    reached : Reached m σ as_non_null τ
    reached [] c = absurd ((x.stacks []).0 c)
    reached (y ∷ s) c =
        let (stands, d) = (x.stacks (y ∷ s)).0 c in
        let (t, j, q, l) = not_null_reached m a b e y stands in
        (t ∷ [], not_null t ∷ [], s, (enabled σ as_non_null FunctionReferences false (refl, refl) i, (t, j, refl, refl)), (p.stacks t s).1 (q, d), (l, all_below_refl s))
done (Some k) m σ ρ τ a b i p e x = denies_from k _ _ (λ y. tt) x

pub non_null : (k : Option ErrorKind) (m : Meaning) (σ ρ τ : State) (a b : MaybeType) → MayBegin σ FunctionReferences false → PoppedAny m σ a ρ → known_not_null a ≡ Some b
    → Does k (PushedAny m ρ b τ) (Unit {0}) → Stays ρ τ → Checks m σ as_non_null k τ
non_null k m σ ρ τ a b i p e x s =
    let z = stays_trans σ ρ τ (stays_same σ ρ p.same) s in
    checks_going k m σ τ as_non_null FunctionReferences false i (done k m σ ρ τ a b i p e x) z.given z.failed z.saved

-- where it comes there is a reference
at_reference : (m : Meaning) (σ : State) → MayBegin σ FunctionReferences false → (os : List Op) × Accepts m σ (as_non_null ∷ os)
    → (t : Operand) × (rest : List Operand) × IsReference t × Stacks m σ (t ∷ rest)
at_reference m σ i (os, y) =
    let (popped, pushed, rest, (u, (v, j, f, g)), c) = some_row m σ as_non_null os refl i.framed y in
    let c' : Stacks m σ (v ∷ rest) = rw f at c in (v, rest, j, c')

pub nothing_non_null : (k : ErrorKind) (m : Meaning) (σ τ : State) → MayBegin σ FunctionReferences false → Denies k (MayPopAny m σ) → Stays σ τ → Checks m σ as_non_null (Some k) τ
nothing_non_null k m σ τ i d s =
    refused_then k m σ τ as_non_null FunctionReferences false i s (denies_from k _ _ (λ y. let (t, rest, j, c) = at_reference m σ i y in (t, rest, c)) d)

pub no_reference : (k : ErrorKind) (m : Meaning) (σ ρ : State) (a : MaybeType) → MayBegin σ FunctionReferences false → PoppedAny m σ a ρ → known_not_null a ≡ None
    → Checks m σ as_non_null (Some k) ρ
no_reference k m σ ρ a i p e =
    refused_then k m σ ρ as_non_null FunctionReferences false i (stays_same σ ρ p.same)
    (denies k _ (λ y. let (t, rest, j, c) = at_reference m σ i y in no_null m a t e j ((p.stacks t rest).0 c).0))

-- ---- br_on_null

abbrev pub on_null : ℕ → Op
on_null d = op.Control (control.BrOnNull d)

pub on_null_is : (d : ℕ) → IsPlain (on_null d) FunctionReferences false
on_null_is d = record { of = refl; named = refl; plain = refl }

-- operands of these types with one on top
topped : (ts : List ValueType) (t : Operand) (rest : List Operand) → reverse (all_known ts ++ t ∷ []) ++ rest ≡ t ∷ (stack ts ++ rest)
topped ts t rest = rw reverse-append refl

abbrev pub LabelAt : Meaning → State → ℕ → List ValueType → Type 0
LabelAt m σ d ts = slice_get (map (label m) σ.opens) d ≡ Some ts

on_null_done : (k : Option ErrorKind) (m : Meaning) (σ ρ κ τ : State) (d : ℕ) (ts : List ValueType) (a b : MaybeType) → MayBegin σ FunctionReferences false → PoppedAny m σ a ρ → known_not_null a ≡ Some b
    → LabelAt m σ d ts → Exchanged m ρ ts ts κ → Does k (PushedAny m κ b τ) (Unit {0}) → Decides m σ (on_null d) k τ
on_null_done None m σ ρ κ τ d ts a b i p e h w x =
    by_row m σ τ (on_null d) refl (λ set. refl) (same_trans σ ρ τ p.same (same_trans ρ κ τ w.same x.same)) reached least
  where
    reached : Reached m σ (on_null d) τ
    reached [] c = absurd ((x.stacks []).0 c)
    reached (y ∷ s) c =
        let (stands, f) = (x.stacks (y ∷ s)).0 c in
        let (rest, g, l) = (w.stacks s).0 f in
        let (t, j, q, r) = not_null_reached m a b e y stands in (
          all_known ts ++ t ∷ [],
          all_known ts ++ not_null t ∷ [],
          rest,
          (enabled σ (on_null d) FunctionReferences false (refl, refl) i, (ts, t, h, j, refl, refl)),
          subst (λ (v : List Operand). Stacks m σ v) (sym (topped ts t rest)) ((p.stacks t (stack ts ++ rest)).1 (q, g)),
          subst (λ (v : List Operand). AllBelow v (y ∷ s)) (sym (topped ts (not_null t) rest)) (r, l),
        )

    least : Least m σ (on_null d) τ
    least popped pushed rest (u, (us, v, o, j, f, g)) c =
        let z : us ≡ ts = one_label ts us _ h o in
        let c' : Stacks m σ (v ∷ (stack us ++ rest)) = subst (λ (n : List Operand). Stacks m σ n) (ap (λ (n : List Operand). reverse n ++ rest) f ∙ topped us v rest) c in
        let (s, n) = (p.stacks v (stack us ++ rest)).0 c' in
        let n' : Stacks m ρ (stack ts ++ rest) = subst (λ (vs : List ValueType). Stacks m ρ (stack vs ++ rest)) z n in
        let r = (x.stacks (not_null v ∷ (stack ts ++ rest))).1 (not_null_least m a b e v j s, (w.stacks (stack ts ++ rest)).1 (rest, n', all_below_refl (stack ts ++ rest))) in
        let g' : reverse pushed ++ rest ≡ not_null v ∷ (stack ts ++ rest) =
        ap (λ (n : List Operand). reverse n ++ rest) g ∙ topped us (not_null v) rest ∙ ap (λ (vs : List ValueType). not_null v ∷ (stack vs ++ rest)) z in
        subst (λ (n : List Operand). Stacks m τ n) (sym g') r
on_null_done (Some k) m σ ρ κ τ d ts a b i p e h w x = denies_from k _ _ (λ y. tt) x

pub on_null_checked : (k : Option ErrorKind) (m : Meaning) (σ ρ κ τ : State) (d : ℕ) (ts : List ValueType) (a b : MaybeType) → MayBegin σ FunctionReferences false → PoppedAny m σ a ρ
    → known_not_null a ≡ Some b → LabelAt m σ d ts → Exchanged m ρ ts ts κ → Does k (PushedAny m κ b τ) (Unit {0}) → Stays κ τ → Checks m σ (on_null d) k τ
on_null_checked k m σ ρ κ τ d ts a b i p e h w x s =
    let z = stays_trans σ ρ τ (stays_same σ ρ p.same) (stays_trans ρ κ τ (stays_same ρ κ w.same) s) in
    checks_going k m σ τ (on_null d) FunctionReferences false i (on_null_done k m σ ρ κ τ d ts a b i p e h w x) z.given z.failed z.saved

-- where it comes there is a reference, above what the label takes
at_null : (m : Meaning) (σ : State) (d : ℕ) → MayBegin σ FunctionReferences false → (os : List Op) × Accepts m σ (on_null d ∷ os)
    → (ts : List ValueType) × (t : Operand) × (rest : List Operand) × LabelAt m σ d ts × IsReference t × Stacks m σ (t ∷ (stack ts ++ rest))
at_null m σ d i (os, y) =
    let (popped, pushed, rest, (u, (ts, v, o, j, f, g)), c) = some_row m σ (on_null d) os refl i.framed y in
    (ts, v, rest, o, j, subst (λ (n : List Operand). Stacks m σ n) (ap (λ (n : List Operand). reverse n ++ rest) f ∙ topped ts v rest) c)

pub nothing_on_null : (k : ErrorKind) (m : Meaning) (σ τ : State) (d : ℕ) → MayBegin σ FunctionReferences false → Denies k (MayPopAny m σ) → Stays σ τ → Checks m σ (on_null d) (Some k) τ
nothing_on_null k m σ τ d i n s =
    refused_then k m σ τ (on_null d) FunctionReferences false i s (denies_from k _ _ (λ y. let (ts, t, rest, o, j, c) = at_null m σ d i y in (t, stack ts ++ rest, c)) n)

pub no_reference_on_null : (k : ErrorKind) (m : Meaning) (σ ρ : State) (d : ℕ) (a : MaybeType) → MayBegin σ FunctionReferences false → PoppedAny m σ a ρ → known_not_null a ≡ None
    → Checks m σ (on_null d) (Some k) ρ
no_reference_on_null k m σ ρ d a i p e =
    refused_then k m σ ρ (on_null d) FunctionReferences false i (stays_same σ ρ p.same)
    (denies k _ (λ y. let (ts, t, rest, o, j, c) = at_null m σ d i y in no_null m a t e j ((p.stacks t (stack ts ++ rest)).0 c).0))

pub no_label_on_null : (k : ErrorKind) (m : Meaning) (σ ρ : State) (d : ℕ) (a : MaybeType) → MayBegin σ FunctionReferences false → PoppedAny m σ a ρ
    → slice_get (map (label m) σ.opens) d ≡ None → Checks m σ (on_null d) (Some k) ρ
no_label_on_null k m σ ρ d a i p e =
    refused_then k m σ ρ (on_null d) FunctionReferences false i (stays_same σ ρ p.same)
    (denies k _ (λ y. let (ts, t, rest, o, j, c) = at_null m σ d i y in not_labelled ts _ e o))

pub carries_nothing : (k : ErrorKind) (m : Meaning) (σ ρ κ : State) (d : ℕ) (ts : List ValueType) (a : MaybeType) → MayBegin σ FunctionReferences false → PoppedAny m σ a ρ → LabelAt m σ d ts
    → Denies k (MayPop m ρ (stack ts)) → Stays ρ κ → Checks m σ (on_null d) (Some k) κ
carries_nothing k m σ ρ κ d ts a i p h n s =
    refused_then k m σ κ (on_null d) FunctionReferences false i (stays_trans σ ρ κ (stays_same σ ρ p.same) s)
    (denies_from k _ _ (λ y. let (us, t, rest, o, j, c) = at_null m σ d i y in
    let z : us ≡ ts = one_label ts us _ h o in
    (rest, subst (λ (vs : List ValueType). Stacks m ρ (stack vs ++ rest)) z ((p.stacks t (stack us ++ rest)).0 c).1)) n)

-- ---- br_on_non_null

abbrev pub on_non_null : ℕ → Op
on_non_null d = op.Control (control.BrOnNonNull d)

pub on_non_null_is : (d : ℕ) → IsPlain (on_non_null d) FunctionReferences false
on_non_null_is d = record { of = refl; named = refl; plain = refl }

-- lists with one item more are equal part by part
parts : {A : Type 0} (xs ys : List A) (x y : A) → xs ++ x ∷ [] ≡ ys ++ y ∷ [] → (xs ≡ ys) × (x ≡ y)
parts [] [] x y e = (refl, cc)
parts [] (w ∷ []) x y e = absurd cc
parts [] (w ∷ v ∷ ys) x y e = absurd cc
parts (z ∷ []) [] x y e = absurd cc
parts (z ∷ u ∷ xs) [] x y e = absurd cc
parts (z ∷ xs) (w ∷ ys) x y e =
    let h : z ≡ w = cc in
    let t : xs ++ x ∷ [] ≡ ys ++ y ∷ [] = cc in
    let (f, g) = parts xs ys x y t in (rw (h, f) refl, g)

-- a label that takes a reference on top of others
pub on_non_null_row : (m : Meaning) (σ : State) (d : ℕ) (ts os : List ValueType) (n : Bool) (h : HeapOf TypeTree) → LabelAt m σ d ts → ts ≡ os ++ ref n h ∷ [] → (popped pushed : List Operand)
    → GroupRow (context m σ.given σ.opens) (initialised m σ.given σ.inits) (on_non_null d) popped pushed ↔ Takes (os ++ ref true h ∷ []) os popped pushed
on_non_null_row m σ d ts os n h l e popped pushed = (
  λ (us, k, i, f, t). (
      let z : us ++ ref k i ∷ [] ≡ os ++ ref n h ∷ [] = one_label ts (us ++ ref k i ∷ []) _ l f ∙ e in
      let (x, y) = parts us os (ref k i) (ref n h) z in
      let w : i ≡ h = cc in
      subst (λ (j : HeapOf TypeTree). Takes (os ++ ref true j ∷ []) os popped pushed) w (subst (λ (vs : List ValueType). Takes (vs ++ ref true i ∷ []) vs popped pushed) x t)
      ),
  λ t. (os, n, h, l ∙ ap (λ (vs : List ValueType). Some vs) e, t),
)

pub no_label_on_non_null : (m : Meaning) (σ : State) (d : ℕ) → MayBegin σ FunctionReferences false → slice_get (map (label m) σ.opens) d ≡ None → (os : List Op) × Accepts m σ (on_non_null d ∷ os) → ⊥
no_label_on_non_null m σ d b e = no_row m σ (on_non_null d) FunctionReferences false (on_non_null_is d) b (λ popped pushed (us, n, h, f, t). not_labelled (us ++ ref n h ∷ []) _ e f)

-- the label takes no reference on top
split_types : (m : Meaning) (ts : List ValType) (us : List ValueType) (n : Bool) (h : HeapOf TypeTree) → types_in m ts ≡ us ++ ref n h ∷ []
    → (r : Reference) × (others : List ValType) × (ts ≡ others ++ vals.Ref r ∷ [])
unfolding type_in
split_types m [] [] n h e = absurd cc
split_types m [] (u ∷ us) n h e = absurd cc
split_types m (vals.I32 ∷ []) [] n h e = absurd cc
split_types m (vals.I64 ∷ []) [] n h e = absurd cc
split_types m (vals.F32 ∷ []) [] n h e = absurd cc
split_types m (vals.F64 ∷ []) [] n h e = absurd cc
split_types m (vals.V128 ∷ []) [] n h e = absurd cc
split_types m (vals.Ref r ∷ []) [] n h e = (r, [], refl)
split_types m (t ∷ v ∷ ts) [] n h e = absurd cc
split_types m (t ∷ ts) (u ∷ us) n h e =
    let f : types_in m ts ≡ us ++ ref n h ∷ [] = cc in
    let (r, os, g) = split_types m ts us n h f in (r, t ∷ os, ap (λ (vs : List ValType). t ∷ vs) g)

pub no_reference_on_label : (m : Meaning) (σ : State) (d : ℕ) (ts : List ValType) → MayBegin σ FunctionReferences false → LabelAt m σ d (types_in m ts) → EndsInNone ts
    → (os : List Op) × Accepts m σ (on_non_null d ∷ os) → ⊥
no_reference_on_label m σ d ts b l n =
    no_row m σ (on_non_null d) FunctionReferences false (on_non_null_is d) b
    (λ popped pushed (us, k, h, f, t).
    let e : us ++ ref k h ∷ [] ≡ types_in m ts = one_label (types_in m ts) (us ++ ref k h ∷ []) _ l f in
    let (r, os, g) = split_types m ts us k h (sym e) in n r os g)

-- where it comes, a reference that may be null is on top
pub no_last : (k : ErrorKind) (m : Meaning) (σ : State) (d : ℕ) (ts os : List ValueType) (n : Bool) (h : HeapOf TypeTree) → MayBegin σ FunctionReferences false → LabelAt m σ d ts → ts ≡ os ++ ref n h ∷ []
    → Denies k (MayPop m σ (known (ref true h) ∷ [])) → Denies k ((os : List Op) × Accepts m σ (on_non_null d ∷ os))
no_last k m σ d ts os n h i l e =
    denies_from k _ _ (λ (more, a). (let (popped, pushed, rest, r, c) = some_row m σ (on_non_null d) more refl i.framed a in
    let t = (on_non_null_row m σ d ts os n h l e popped pushed).0 r.1 in
    pops_last m σ (ref true h) os (rest, subst (λ (x : List Operand). Stacks m σ (reverse x ++ rest)) t.0 c)))

-- the types of a label that ends in a reference
pub ends_in : (m : Meaning) (ts : List ValType) (t : ValType) (others : List ValType) (x : EndsIn ts t others) → types_in m ts ≡ types_in m others ++ ref x.0.nullable (heap_in m x.0.heap) ∷ []
unfolding type_in
ends_in m ts t others x = ap (types_in m) x.1 ∙ map-append (type_in m) others (vals.Ref x.0 ∷ [])

pub last_is : (m : Meaning) (ts : List ValType) (t : ValType) (others : List ValType) (x : EndsIn ts t others) → type_in m t ≡ ref true (heap_in m x.0.heap)
unfolding type_in
last_is m ts t others x = ap (type_in m) x.2
