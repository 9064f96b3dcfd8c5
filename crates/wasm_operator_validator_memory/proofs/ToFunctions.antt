-- `ref.func`.
use Rattle.std.proofs.Common.{◌≡◌, ◌↔◌, ◌∙◌, ◌<◌, ℕ, List, [], ◌∷◌, Bool, true, false, IsTrue, Option, Some, None, length, slice_get, refl, sym, ap, subst}
use Rattle.std.proofs.lemmas.Option.{slice_get_within, get_or_from_slice_get}
use Rattle.wasm_types.specs.decoding.declared.error.ErrorKind.{ErrorKind}
use Rattle.wasm_types.specs.decoding.DenialLaws.{denies_from}
use Rattle.wasm_types.specs.trees.Types.{HeapOf, ref}
use Rattle.wasm_types.specs.trees.Trees.{TypeTree}
use Rattle.wasm_types.specs.trees.Below.{HeapBelow, itself, is_shared, value_is_shared}
use Rattle.wasm_types.specs.trees.ValidGroup.{type_at}
use Rattle.wasm_types.specs.values.declared.heap.HeapType.{HeapType}
use Rattle.wasm_types.specs.values.Reference.{Reference}
use Rattle.wasm_operators_immediates.specs.declared.proposal.Proposal.TheVariants.{ReferenceTypes}
use Rattle.wasm_operators_enums.specs.declared.bulk.BulkOperator.TheVariants as bulk
use Rattle.wasm_operators_enums.specs.Op as op
use Rattle.wasm_operators_enums.specs.Op.{Op}
use Rattle.wasm_operator_validator_rules.specs.Operands.{ValueType, known}
use Rattle.wasm_operator_validator_rules.specs.Row.{IsOneOf, IsReferenceTo, of_type, of_exactly}
use Rattle.wasm_operator_validator_state.specs.resources.Meaning.{Meaning, type_in, heap_in}
use Rattle.wasm_operator_validator_state.specs.resources.Answers.{IsTypeOf, IsNamed}
use Rattle.wasm_operator_validator_state.specs.Refusals.{Does}
use Rattle.wasm_operator_validator_state.specs.State.{State, context, Accepts, Decides, Checks}
use Rattle.wasm_operator_validator_state.specs.Steps.{Stacks, Pushed}
use Rattle.wasm_operator_validator_state.specs.laws.Operands.{all_below_refl}
use Rattle.wasm_operator_validator_state.specs.laws.Rows.{by_row}
use Rattle.wasm_operator_validator_state.specs.Entering.{MayBegin}
use Rattle.wasm_operator_validator_state.specs.laws.Entering.{enabled}
use Rattle.wasm_operator_validator_state.specs.laws.Checks.{checks_going}
use Rattle.wasm_operator_validator_stacks.specs.determined.Operators.{MayUseIn, Stays}
use Rattle.wasm_operator_validator_stacks.specs.determined.laws.Usable.{fails}
use Rattle.wasm_operator_validator_stacks.specs.determined.laws.Determined.{no_row}
use Rattle.wasm_operator_validator_memory.specs.Tables.{IsReferable, IsExactly, IsFunctionReference, heap_to, reference_to, written_heap}
use Rattle.wasm_operator_validator_memory.proofs.Indexing.{is_bulk}

abbrev pub func_op : ℕ → Op
func_op x = op.Bulk (bulk.RefFunc x)

-- ---- the type of the reference

heap_named : (m : Meaning) (n : ℕ) (b : Bool) (named : HeapType) → IsNamed m (written_heap b n) named → heap_in m named ≡ heap_to b (type_at m.«module».types n)
heap_named m n true named i = i.same
heap_named m n false named i = i.same

pub function_named : (m : Meaning) (n : ℕ) (b : Bool) (written named : HeapType) (r : Reference) → written ≡ written_heap b n → IsNamed m written named → r ≡ record { nullable = false; heap = named }
    → type_in m (reference_to r) ≡ ref false (heap_to b (type_at m.«module».types n))
unfolding type_in
function_named m n b written named r e i f =
    let i' : IsNamed m (written_heap b n) named = subst (λ (h : HeapType). IsNamed m h named) e i in
    subst (λ (x : Reference). type_in m (reference_to x) ≡ ref false (heap_to b (type_at m.«module».types n))) (sym f) (ap (ref false) (heap_named m n b named i'))

-- ---- the function

pub type_within : (m : Meaning) (x n : ℕ) → IsTypeOf m.«module» x (Some n) → n < length m.«module».types
type_within m x n (t, f, e) = slice_get_within m.«module».types n t e

heap_shared : (b : Bool) (t : TypeTree) → value_is_shared (ref false (heap_to b t)) ≡ is_shared t
heap_shared true t = refl
heap_shared false t = refl

pub unknown_function : (m : Meaning) (σ : State) (x : ℕ) → slice_get m.«module».functions x ≡ None → (t : TypeTree) → IsReferable m σ x t → ⊥
unknown_function m σ x e t r = let y : ◌≡◌ {A = Option TypeTree} None (Some t) = sym e ∙ r.function in cc

pub undeclared : (m : Meaning) (σ : State) (x : ℕ) (b : Bool) → IsTrue b ↔ IsOneOf x m.«module».referenced → b ≡ false → (t : TypeTree) → IsReferable m σ x t → ⊥
undeclared m σ x b i e t r = fails b i e r.referenced

abbrev pub TypeAt : Meaning → ℕ → TypeTree
TypeAt m n = type_at m.«module».types n

is_at : (m : Meaning) (x n : ℕ) → IsTypeOf m.«module» x (Some n) → slice_get m.«module».functions x ≡ Some (TypeAt m n)
is_at m x n (t, f, e) = f ∙ ap (λ (u : TypeTree). Some u) (sym (get_or_from_slice_get m.«module».types n t _ e))

same_function : (m : Meaning) (σ : State) (x n : ℕ) (t : TypeTree) → IsTypeOf m.«module» x (Some n) → IsReferable m σ x t → t ≡ TypeAt m n
same_function m σ x n t i r = let y : ◌≡◌ {A = Option TypeTree} (Some t) (Some (TypeAt m n)) = sym r.function ∙ is_at m x n i in cc

pub unused : (m : Meaning) (σ : State) (x n : ℕ) (b c : Bool) (u : ValueType) → IsTypeOf m.«module» x (Some n) → u ≡ ref false (heap_to b (TypeAt m n))
    → IsTrue c ↔ MayUseIn σ (value_is_shared u) → c ≡ false → (t : TypeTree) → IsReferable m σ x t → ⊥
unused m σ x n b c u i e j f t r =
    let s : value_is_shared u ≡ is_shared t = ap value_is_shared e ∙ heap_shared b (TypeAt m n) ∙ ap is_shared (sym (same_function m σ x n t i r)) in
    fails c j f (subst (λ (k : Bool). MayUseIn σ k) (sym s) r.used)

pub function_known : (m : Meaning) (σ : State) (x n : ℕ) (b c d : Bool) (u : ValueType) → IsTypeOf m.«module» x (Some n) → u ≡ ref false (heap_to b (TypeAt m n))
    → IsTrue b ↔ IsExactly m σ x → IsTrue d ↔ IsOneOf x m.«module».referenced → d ≡ true → IsTrue c ↔ MayUseIn σ (value_is_shared u) → c ≡ true → IsFunctionReference m σ x u
function_known m σ x n b c d u i e k r s j f =
    let h : value_is_shared u ≡ is_shared (TypeAt m n) = ap value_is_shared e ∙ heap_shared b (TypeAt m n) in
    record {
      type = TypeAt m n;
      referable = record { function = is_at m x n i; referenced = r.0 s; used = subst (λ (y : Bool). MayUseIn σ y) h (j.0 f) };
      exactly = b;
      known = k;
      is = e;
    }

-- ---- the row

reference_of : (m : Meaning) (σ : State) (x : ℕ) (t : TypeTree) (b : Bool) → IsTrue b ↔ IsExactly m σ x → IsReferenceTo (context m σ.given σ.opens) x t (heap_to b t)
reference_of m σ x t true k = let (h, o) = k.0 refl in of_exactly h o
reference_of m σ x t false k = of_type

-- no other reference to it is below
least : (m : Meaning) (σ : State) (x : ℕ) (t : TypeTree) (b : Bool) (h : HeapOf TypeTree) → IsTrue b ↔ IsExactly m σ x → IsReferenceTo (context m σ.given σ.opens) x t h → HeapBelow (heap_to b t) h
least m σ x t true _ k of_type = itself
least m σ x t false _ k of_type = itself
least m σ x t true _ k (of_exactly h o) = refl
least m σ x t false _ k (of_exactly h o) = let y : false ≡ true = k.1 (h, o) in cc

done : (k : Option ErrorKind) (m : Meaning) (σ τ : State) (x : ℕ) (u : ValueType) → MayBegin σ ReferenceTypes false → IsFunctionReference m σ x u
    → Does k (Pushed m σ (known u ∷ []) τ) (Unit {0}) → Decides m σ (func_op x) k τ
done None m σ τ x u b i y =
    by_row m σ τ (func_op x) refl (λ set. refl) y.same
    (λ n c. let (rest, d, l) = (y.stacks n).0 c in (
      [],
      known u ∷ [],
      rest,
      (
        enabled σ (func_op x) ReferenceTypes false (refl, refl) b,
        (i.type, heap_to i.exactly i.type, i.referable.function, i.referable.referenced, i.referable.used, reference_of m σ x i.type i.exactly i.known, (refl, ap (λ (v : ValueType). known v ∷ []) i.is)),
      ),
      d,
      l,
    ))
    (λ popped pushed rest (en, (t, h, f, r, s, w, (e, g))) d.
    let d' : Stacks m σ rest = rw e at d in
    let z : ◌≡◌ {A = Option TypeTree} (Some t) (Some i.type) = sym f ∙ i.referable.function in
    let v : t ≡ i.type = cc in
    let w' : IsReferenceTo (context m σ.given σ.opens) x i.type h = subst (λ (q : TypeTree). IsReferenceTo (context m σ.given σ.opens) x q h) v w in
    rw g ((y.stacks (known (ref false h) ∷ rest)).1 (rest, d', (rw i.is (tt, least m σ x i.type i.exactly h i.known w'), all_below_refl rest))))
done (Some k) m σ τ x u b i y = denies_from k _ _ (λ z. tt) y

pub function_pushed : (k : Option ErrorKind) (m : Meaning) (σ τ : State) (x : ℕ) (u : ValueType) → MayBegin σ ReferenceTypes false → IsFunctionReference m σ x u
    → Does k (Pushed m σ (known u ∷ []) τ) (Unit {0}) → Stays σ τ → Checks m σ (func_op x) k τ
function_pushed k m σ τ x u b i y s = checks_going k m σ τ (func_op x) ReferenceTypes false b (done k m σ τ x u b i y) s.given s.failed s.saved

pub not_referable : (m : Meaning) (σ : State) (x : ℕ) → MayBegin σ ReferenceTypes false → ((t : TypeTree) → IsReferable m σ x t → ⊥) → (os : List Op) × Accepts m σ (func_op x ∷ os) → ⊥
not_referable m σ x b n =
    no_row m σ (func_op x) ReferenceTypes false (is_bulk (bulk.RefFunc x)) b
    (λ popped pushed (t, h, f, r, s, w, c). n t (record { function = f; referenced = r; used = s }))
