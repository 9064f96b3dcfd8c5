-- `ref.null`, and the types that a module writes.
use Rattle.std.proofs.Common.{◌≡◌, ◌↔◌, ◌∙◌, ℕ, List, [], ◌∷◌, Bool, true, false, IsTrue, Some, refl, sym, ap, subst}
use Rattle.wasm_types.specs.decoding.declared.error.ErrorKind.{ErrorKind}
use Rattle.wasm_types.specs.decoding.declared.error.ErrorKind.TheVariants as kinds
use Rattle.wasm_types.specs.decoding.Denials.{Denies}
use Rattle.wasm_types.specs.decoding.DenialLaws.{denies_from}
use Rattle.wasm_types.specs.trees.Types.{HeapOf, abstract, concrete, exact, ref, heap_map}
use Rattle.wasm_types.specs.trees.Trees.{TypeTree}
use Rattle.wasm_types.specs.trees.Below.{value_is_shared}
use Rattle.wasm_types.specs.trees.Gates.{HeapIsAllowed, ValueIsAllowed}
use Rattle.wasm_types.specs.values.declared.heap.HeapType.{HeapType}
use Rattle.wasm_types.specs.values.declared.value.ValType.{ValType}
use Rattle.wasm_types.specs.values.Reference.{Reference}
use Rattle.wasm_types.specs.values.Trees.{heap_of}
use Rattle.wasm_types.specs.values.Values.{value_of}
use Rattle.wasm_operators_immediates.specs.declared.proposal.Proposal.TheVariants.{ReferenceTypes}
use Rattle.wasm_operators_enums.specs.declared.bulk.BulkOperator.TheVariants as bulk
use Rattle.wasm_operators_enums.specs.Op as op
use Rattle.wasm_operators_enums.specs.Op.{Op}
use Rattle.wasm_operator_validator_rules.specs.Operands.{ValueType, Operand}
use Rattle.wasm_operator_validator_rules.specs.Context.{IsType, written_type}
use Rattle.wasm_operator_validator_rules.specs.Row.{Takes, GroupRow}
use Rattle.wasm_operator_validator_state.specs.resources.Meaning.{Meaning, type_in, named_type}
use Rattle.wasm_operator_validator_state.specs.resources.Answers.{IsWritten, IsNamed}
use Rattle.wasm_operator_validator_state.specs.State.{State, initialised, context, types_in, Accepts, Checks}
use Rattle.wasm_operator_validator_state.specs.Entering.{MayBegin}
use Rattle.wasm_operator_validator_state.specs.laws.Rows.{some_row}
use Rattle.wasm_operator_validator_stacks.specs.determined.Operators.{MayUseIn}
use Rattle.wasm_operator_validator_stacks.specs.determined.laws.Types.{is_written}
use Rattle.wasm_operator_validator_stacks.specs.determined.laws.Same.{stays_refl}
use Rattle.wasm_operator_validator_stacks.specs.determined.laws.Usable.{fails}
use Rattle.wasm_operator_validator_stacks.specs.determined.laws.Determined.{refused_then, no_row}
use Rattle.wasm_operator_validator_memory.specs.Tables.{null_of, reference_to}
use Rattle.wasm_operator_validator_memory.proofs.Indexing.{is_bulk}

-- ---- a written type

-- it is some type
abbrev pub IsSome : ℕ → Meaning → ValType → Type 0
IsSome bits m t = (u : ValueType) × IsType bits m.«module» t u

pub not_written : (k : ErrorKind) (bits : ℕ) (m : Meaning) (t n : ValType) → n ≡ t → Denies k (IsType bits m.«module» t (type_in m n)) → Denies k (IsSome bits m t)
not_written k bits m t n e d =
    denies_from k _ _ (λ (u, i). is_written m bits t u i) (subst (λ (x : ValType). Denies k (IsType bits m.«module» t (type_in m x))) e d)

-- ---- the same in two steps

allowed_ahead : {A B : Type 0} (f : A → B) (bits : ℕ) (n : Bool) (h : HeapOf A) → HeapIsAllowed bits n h → HeapIsAllowed bits n (heap_map f h)
allowed_ahead f bits n (abstract s a) x = x
allowed_ahead f bits n (concrete r) x = x
allowed_ahead f bits n (exact r) x = x

allowed_back : {A B : Type 0} (f : A → B) (bits : ℕ) (n : Bool) (h : HeapOf A) → HeapIsAllowed bits n (heap_map f h) → HeapIsAllowed bits n h
allowed_back f bits n (abstract s a) x = x
allowed_back f bits n (concrete r) x = x
allowed_back f bits n (exact r) x = x

-- the features that a named type needs are those of the written one
named_allowed : (bits : ℕ) (m : Meaning) (h n : HeapType) → IsNamed m h n → HeapIsAllowed bits true (heap_of n) → HeapIsAllowed bits true (heap_of h)
named_allowed bits m h n i x =
    allowed_back (written_type m.«module») bits true (heap_of h)
    (subst (λ (y : HeapOf TypeTree). HeapIsAllowed bits true y) i.same (allowed_ahead (named_type m) bits true (heap_of n) x))

written_allowed : (bits : ℕ) (m : Meaning) (h n : HeapType) → IsNamed m h n → HeapIsAllowed bits true (heap_of h) → HeapIsAllowed bits true (heap_of n)
written_allowed bits m h n i x =
    allowed_back (named_type m) bits true (heap_of n)
    (subst (λ (y : HeapOf TypeTree). HeapIsAllowed bits true y) (sym i.same) (allowed_ahead (written_type m.«module») bits true (heap_of h) x))

pub far_known : (bits : ℕ) (m : Meaning) (h n : HeapType) (r : Reference) → r ≡ record { nullable = true; heap = n } → IsWritten m h → IsNamed m h n
    → ValueIsAllowed bits (value_of (reference_to r)) → IsType bits m.«module» (null_of h) (type_in m (reference_to r))
unfolding type_in
far_known bits m h n r e w i a =
    let b : ValueIsAllowed bits (value_of (null_of n)) = subst (λ (x : Reference). ValueIsAllowed bits (value_of (reference_to x))) e a in
    subst (λ (x : Reference). IsType bits m.«module» (null_of h) (type_in m (reference_to x))) (sym e) (record {
      allowed = (b.0, named_allowed bits m h n i b.1);
      known = w;
      is = ap (ref true) i.same;
    })

pub far_unallowed : (k : ErrorKind) (bits : ℕ) (m : Meaning) (h n : HeapType) (r : Reference) → r ≡ record { nullable = true; heap = n } → IsNamed m h n
    → Denies k (ValueIsAllowed bits (value_of (reference_to r))) → Denies k (IsSome bits m (null_of h))
far_unallowed k bits m h n r e i d =
    denies_from k _ _
    (λ (u, t). subst (λ (x : Reference). ValueIsAllowed bits (value_of (reference_to x))) (sym e) (t.allowed.0, written_allowed bits m h n i t.allowed.1)) d

pub far_unknown : (k : ErrorKind) (bits : ℕ) (m : Meaning) (h : HeapType) → k ≡ kinds.Other → Denies k (IsWritten m h) → IsSome bits m (null_of h) → ⊥
far_unknown k bits m h e d (u, t) =
    let n : Denies kinds.Other (IsWritten m h) = subst (λ (x : ErrorKind). Denies x (IsWritten m h)) e d in n t.known

-- ---- the row

abbrev pub null_op : HeapType → Op
null_op h = op.Bulk (bulk.RefNull h)

pub null_row : (m : Meaning) (σ : State) (h : HeapType) (n : ValType) → IsType σ.given.bits m.«module» (null_of h) (type_in m n) → MayUseIn σ (value_is_shared (type_in m n))
    → (popped pushed : List Operand)
    → GroupRow (context m σ.given σ.opens) (initialised m σ.given σ.inits) (null_op h) popped pushed ↔ Takes [] (types_in m (n ∷ [])) popped pushed
null_row m σ h n i u popped pushed = (
  λ (v, j, w, k). let e : v ≡ type_in m n = j.is ∙ sym i.is in subst (λ (x : ValueType). Takes [] (x ∷ []) popped pushed) e k,
  λ k. (type_in m n, i, u, k),
)

pub null_unknown : (k : ErrorKind) (m : Meaning) (σ : State) (h : HeapType) → MayBegin σ ReferenceTypes false → Denies k (IsSome σ.given.bits m (null_of h))
    → Checks m σ (null_op h) (Some k) σ
null_unknown k m σ h b d =
    refused_then k m σ σ (null_op h) ReferenceTypes false b (stays_refl σ)
    (denies_from k _ _ (λ (os, y). let (popped, pushed, rest, (en, (v, j, w, c)), s) = some_row m σ (null_op h) os refl b.framed y in (v, j)) d)

pub null_unusable : (m : Meaning) (σ : State) (h : HeapType) (n : ValType) (x : Bool) → MayBegin σ ReferenceTypes false → IsType σ.given.bits m.«module» (null_of h) (type_in m n)
    → IsTrue x ↔ MayUseIn σ (value_is_shared (type_in m n)) → x ≡ false → (os : List Op) × Accepts m σ (null_op h ∷ os) → ⊥
null_unusable m σ h n x b i j e =
    no_row m σ (null_op h) ReferenceTypes false (is_bulk (bulk.RefNull h)) b
    (λ popped pushed (v, k, w, c).
    let y : v ≡ type_in m n = k.is ∙ sym i.is in
    fails x j e (subst (λ (z : ValueType). MayUseIn σ (value_is_shared z)) y w))
