-- The rows of calls by reference.
use Rattle.std.proofs.Common.{◌≡◌, ◌↔◌, ◌∙◌, ◌<◌, ℕ, Bool, true, false, List, [], ◌∷◌, ◌++◌, length, Option, Some, None, option_and_then, slice_get, if◌then◌else◌, refl, sym, ap, subst, reverse}
use Rattle.std.proofs.lemmas.Option.{get_or_from_slice_get, slice_get_within}
use Rattle.wasm_types.specs.decoding.declared.error.ErrorKind.{ErrorKind}
use Rattle.wasm_types.specs.decoding.Denials.{Denies}
use Rattle.wasm_types.specs.decoding.DenialLaws.{denies_from}
use Rattle.wasm_types.specs.trees.Types.{ref, InnerOf}
use Rattle.wasm_types.specs.trees.Trees.{TypeTree}
use Rattle.wasm_types.specs.trees.Below.{expanded, is_shared}
use Rattle.wasm_types.specs.trees.declared.index.UnpackedIndex.TheVariants as index
use Rattle.wasm_types.specs.values.declared.heap.HeapType.{HeapType}
use Rattle.wasm_types.specs.values.declared.heap.HeapType.TheVariants as heap
use Rattle.wasm_types.specs.values.declared.value.ValType.TheVariants as vals
use Rattle.wasm_types.specs.values.Reference.{Reference}
use Rattle.wasm_operators_immediates.specs.declared.proposal.Proposal.TheVariants.{FunctionReferences, TailCall}
use Rattle.wasm_operators_enums.specs.declared.control.ControlOperator.TheVariants as control
use Rattle.wasm_operators_enums.specs.Op as op
use Rattle.wasm_operators_enums.specs.Op.{Op}
use Rattle.wasm_operator_validator_rules.specs.Operands.{ValueType, Operand, known, all_known}
use Rattle.wasm_operator_validator_rules.specs.Context.{Context, Signature, IsFunctionType, MayUse, may_use}
use Rattle.wasm_operator_validator_rules.specs.Named.{used_type, as_function}
use Rattle.wasm_operator_validator_rules.specs.InstructionTypes.{InstructionType, ◌⟶◌, named, instruction_type, reference_to}
use Rattle.wasm_operator_validator_rules.specs.arity.laws.Lookups.{named_is, used_is, function_is}
use Rattle.wasm_operator_validator_rules.specs.Row.{Takes}
use Rattle.wasm_operator_validator_state.specs.resources.Meaning.{Meaning, type_in, reference_in}
use Rattle.wasm_operator_validator_state.specs.resources.Answers.{IsNamed}
use Rattle.wasm_operator_validator_state.specs.State.{State, context, outermost_results, Accepts}
use Rattle.wasm_operator_validator_state.specs.Steps.{Stacks, MayPop}
use Rattle.wasm_operator_validator_state.specs.Entering.{MayBegin}
use Rattle.wasm_operator_validator_state.specs.laws.Rows.{some_row}
use Rattle.wasm_operator_validator_stacks.specs.determined.Operators.{IsPlain}
use Rattle.wasm_operator_validator_stacks.specs.determined.laws.Usable.{may}
use Rattle.wasm_operator_validator_stacks.specs.determined.laws.Types.{reference_is}
use Rattle.wasm_operator_validator_stacks.specs.determined.laws.Determined.{no_row}
use Rattle.wasm_operator_validator_control.specs.laws.Jumping.{IsLast, pops_last, last_stack}
use Rattle.wasm_operator_validator_control.specs.Callees.{reference_type}
use Rattle.wasm_operator_validator_control.proofs.Naming.{one_function}
use Rattle.wasm_operator_validator_control.proofs.CallRows.{RowOf, Never, NamedType, Returns}

abbrev pub call_ref : ℕ → Op
call_ref y = op.Control (control.CallRef y)

abbrev pub return_call_ref : ℕ → Op
return_call_ref y = op.Control (control.ReturnCallRef y)

pub call_ref_is : (y : ℕ) → IsPlain (call_ref y) FunctionReferences false
call_ref_is y = record { of = refl; named = refl; plain = refl }

pub return_call_ref_is : (y : ℕ) → IsPlain (return_call_ref y) TailCall false
return_call_ref_is y = record { of = refl; named = refl; plain = refl }

-- ---- types that may be used

used : (g : Context) (y : ℕ) (t : TypeTree) → slice_get g.«module».types y ≡ Some t → MayUse g (is_shared t) → used_type g y ≡ Some t
used g y t e u =
    ap (λ (o : Option TypeTree). option_and_then (λ s. if may_use g (is_shared s) then Some s else None) o) e ∙ ap (λ (b : Bool). if b then Some t else None) (may g (is_shared t) u)

-- one that is used may be
kept_may : (g : Context) (s t : TypeTree) (b : Bool) → may_use g (is_shared s) ≡ b → ◌≡◌ {A = Option TypeTree} (if b then Some s else None) (Some t) → may_use g (is_shared t) ≡ true
kept_may g s t true e f = let h : s ≡ t = cc in ap (λ (x : TypeTree). may_use g (is_shared x)) (sym h) ∙ e
kept_may g s t false e f = absurd cc

may_back : (g : Context) (s : Bool) → may_use g s ≡ true → MayUse g s
may_back g true e u = refl
may_back g false e u = let x : (if g.shared then false else true) ≡ false = rw u refl in let y : false ≡ true = sym x ∙ e in cc

used_may : (g : Context) (y : ℕ) (t : TypeTree) → used_type g y ≡ Some t → MayUse g (is_shared t)
used_may g y t e = at (slice_get g.«module».types y) e
  where
    at : (o : Option TypeTree) → option_and_then (λ s. if may_use g (is_shared s) then Some s else None) o ≡ Some t → MayUse g (is_shared t)
    at None f = absurd cc
    at (Some s) f = may_back g (is_shared t) (kept_may g s t (may_use g (is_shared s)) refl f)

-- ---- call_ref

abbrev pub takes_reference : Meaning → ℕ → Signature → List ValueType
takes_reference m y b = b.params ++ reference_type m y ∷ []

named_reference : (m : Meaning) (y : ℕ) (t : TypeTree) → slice_get m.«module».types y ≡ Some t → reference_to t ≡ reference_type m y
named_reference m y t e = ap reference_to (sym (get_or_from_slice_get m.«module».types y t _ e))

abbrev by_reference : TypeTree → Signature → InstructionType
by_reference t b = (b.params ++ reference_to t ∷ []) ⟶ b.results

abbrev here : Meaning → State → Context
here m σ = context m σ.given σ.opens

-- the table's row, by its parts
call_ref_named : (m : Meaning) (σ : State) (y : ℕ) (u : InstructionType) → instruction_type (here m σ) (call_ref y) ≡ Some u
    → (t : TypeTree) × (b : Signature) × (slice_get m.«module».types y ≡ Some t) × NamedType m σ y b × (by_reference t b ≡ u)
call_ref_named m σ y u e =
    let t = named_is (used_type (here m σ) y) (λ t. named (as_function (expanded t)) (λ b. Some (by_reference t b))) u e in
    let b = named_is (as_function (expanded t.0)) (λ b. Some (by_reference t.0 b)) u t.2 in
    let f = used_is (here m σ) y t.0 t.1 in
    (t.0, b.0, f, (t.0, f, used_may (here m σ) y t.0 t.1, function_is (expanded t.0) b.0 b.1), (let x : ◌≡◌ {A = Option InstructionType} (Some (by_reference t.0 b.0)) (Some u) = b.2 in cc))

call_ref_type : (m : Meaning) (σ : State) (y : ℕ) (b : Signature) → NamedType m σ y b → instruction_type (here m σ) (call_ref y) ≡ Some (takes_reference m y b ⟶ b.results)
call_ref_type m σ y b (t, e, u, p) =
    ap (λ (o : Option TypeTree). named o (λ s. named (as_function (expanded s)) (λ c. Some (by_reference s c)))) (used (here m σ) y t e u)
    ∙ ap (λ (i : InnerOf TypeTree). named (as_function i) (λ c. Some (by_reference t c))) p
    ∙ ap (λ (r : ValueType). Some ((b.params ++ r ∷ []) ⟶ b.results)) (named_reference m y t e)

pub call_ref_row : (m : Meaning) (σ : State) (y : ℕ) (b : Signature) → NamedType m σ y b → (popped pushed : List Operand) → RowOf m σ (call_ref y) popped pushed ↔ Takes (takes_reference m y b) b.results popped pushed
call_ref_row m σ y b n popped pushed = (
  λ (u, e, k). (
      let f : ◌≡◌ {A = Option InstructionType} (Some u) (Some (takes_reference m y b ⟶ b.results)) = sym e ∙ call_ref_type m σ y b n in
      let h : u ≡ takes_reference m y b ⟶ b.results = cc in
      subst (λ (v : InstructionType). Takes v.takes v.gives popped pushed) h k
      ),
  λ k. (takes_reference m y b ⟶ b.results, call_ref_type m σ y b n, k),
)

pub no_call_ref : (m : Meaning) (σ : State) (y : ℕ) → MayBegin σ FunctionReferences false → ((b : Signature) → NamedType m σ y b → ⊥) → Never m σ (call_ref y)
no_call_ref m σ y i n =
    no_row m σ (call_ref y) FunctionReferences false (call_ref_is y) i (λ popped pushed (u, e, k). let c = call_ref_named m σ y u e in n c.1 c.3)

-- no reference to the type is there
pub no_callee : (k : ErrorKind) (m : Meaning) (σ : State) (y : ℕ) (b : Signature) → MayBegin σ FunctionReferences false → NamedType m σ y b → Denies k (MayPop m σ (known (reference_type m y) ∷ []))
    → Denies k ((os : List Op) × Accepts m σ (call_ref y ∷ os))
no_callee k m σ y b i n =
    denies_from k _ _ (λ (os, a). (let (popped, pushed, rest, r, c) = some_row m σ (call_ref y) os refl i.framed a in
    let t = (call_ref_row m σ y b n popped pushed).0 r.1 in
    pops_last m σ (reference_type m y) b.params (rest, subst (λ (x : List Operand). Stacks m σ (reverse x ++ rest)) t.0 c)))

-- a type that is named has an index
pub has_index : (m : Meaning) (σ : State) (y : ℕ) (b : Signature) → NamedType m σ y b → y < length m.«module».types
has_index m σ y b (t, e, u, p) = slice_get_within m.«module».types y t e

-- ---- return_call_ref

-- what a row of it names
returned : (m : Meaning) (σ : State) (y : ℕ) (t : TypeTree) (b : Signature) → used_type (here m σ) y ≡ Some t → IsFunctionType t b → NamedType m σ y b
returned m σ y t b e p = (t, used_is (here m σ) y t e, used_may (here m σ) y t e, p)

pub return_call_ref_last : (m : Meaning) (σ : State) (y : ℕ) (b : Signature) (rs : List ValueType) → NamedType m σ y b → outermost_results m σ.opens ≡ rs → Returns b rs
    → IsLast m σ (return_call_ref y) (takes_reference m y b)
return_call_ref_last m σ y b rs n e r popped pushed = (
  λ (t, c, any, u, p, k, f). (
    any,
    (
        let h : c ≡ b = one_function σ m.«module».types y b c n (returned m σ y t c u p) in
        let i : reference_to t ≡ reference_type m y = named_reference m y t (used_is (here m σ) y t u) in
        subst (λ (v : Signature). popped ≡ any ++ all_known (takes_reference m y v)) h (subst (λ (v : ValueType). popped ≡ any ++ all_known (c.params ++ v ∷ [])) i f)
        ),
  ),
  λ (any, f). (
    n.0,
    b,
    any,
    used (here m σ) y n.0 n.1 n.2,
    n.3,
    subst (λ (v : List ValueType). Returns b v) (sym e) r,
    subst (λ (v : ValueType). popped ≡ any ++ all_known (b.params ++ v ∷ [])) (sym (named_reference m y n.0 n.1)) f,
  ),
)

pub no_return_call_ref : (m : Meaning) (σ : State) (y : ℕ) → MayBegin σ TailCall false → ((b : Signature) → NamedType m σ y b → ⊥) → Never m σ (return_call_ref y)
no_return_call_ref m σ y i n =
    no_row m σ (return_call_ref y) TailCall false (return_call_ref_is y) i (λ popped pushed (t, c, any, u, p, k, f). n c (returned m σ y t c u p))

pub returns_other : (m : Meaning) (σ : State) (y : ℕ) (b : Signature) (rs : List ValueType) → MayBegin σ TailCall false → NamedType m σ y b → outermost_results m σ.opens ≡ rs → (Returns b rs → ⊥)
    → Never m σ (return_call_ref y)
returns_other m σ y b rs i n o r =
    no_row m σ (return_call_ref y) TailCall false (return_call_ref_is y) i
    (λ popped pushed (t, c, any, u, p, k, f).
    r (subst (λ (v : List ValueType). Returns b v) o (subst (λ (v : Signature). Returns v (outermost_results m σ.opens)) (one_function σ m.«module».types y b c n (returned m σ y t c u p)) k)))

pub no_callee_left : (k : ErrorKind) (m : Meaning) (σ : State) (y : ℕ) (b : Signature) (rs : List ValueType) → MayBegin σ TailCall false → NamedType m σ y b → outermost_results m σ.opens ≡ rs → Returns b rs
    → Denies k (MayPop m σ (known (reference_type m y) ∷ [])) → Denies k ((os : List Op) × Accepts m σ (return_call_ref y ∷ os))
no_callee_left k m σ y b rs i n o r =
    denies_from k _ _ (λ (os, a). (let (popped, pushed, rest, w, c) = some_row m σ (return_call_ref y) os refl i.framed a in
    let (any, f) = (return_call_ref_last m σ y b rs n o r popped pushed).0 w.1 in
    pops_last m σ (reference_type m y) b.params (reverse any ++ rest, subst (λ (v : List Operand). Stacks m σ v) (last_stack popped any rest (takes_reference m y b) f) c)))

-- ---- the type of the reference, as the code names it

pub reference_named : (m : Meaning) (y : ℕ) (r : Reference) (n : HeapType) → r ≡ record { nullable = true; heap = n } → IsNamed m (heap.Concrete (index.Module y)) n → type_in m (vals.Ref r) ≡ reference_type m y
reference_named m y r n e i = reference_is m r ∙ ap (reference_in m) e ∙ ap (ref true) i.same
