-- The rows of branches and returns.
use Rattle.std.proofs.Common.{◌≡◌, ◌↔◌, ◌∙◌, ℕ, List, [], ◌∷◌, ◌++◌, Some, None, false, refl, sym, ap, subst, append-nil, slice_get, map, reverse}
use Rattle.wasm_types.specs.decoding.declared.error.ErrorKind.{ErrorKind}
use Rattle.wasm_types.specs.decoding.Denials.{Denies}
use Rattle.wasm_types.specs.decoding.DenialLaws.{denies_from}
use Rattle.wasm_operators_immediates.specs.declared.proposal.Proposal.TheVariants.{Mvp}
use Rattle.wasm_operators_enums.specs.declared.control.ControlOperator.TheVariants as control
use Rattle.wasm_operators_enums.specs.Op as op
use Rattle.wasm_operators_enums.specs.Op.{Op}
use Rattle.wasm_operator_validator_rules.specs.Operands.{ValueType, Operand, known, all_known}
use Rattle.wasm_operator_validator_rules.specs.InstructionTypes.{i32_type}
use Rattle.wasm_operator_validator_rules.specs.Row.{Takes, GroupRow}
use Rattle.wasm_operator_validator_state.specs.resources.Meaning.{Meaning}
use Rattle.wasm_operator_validator_state.specs.State.{State, initialised, context, label, outermost_results, Accepts}
use Rattle.wasm_operator_validator_state.specs.Steps.{Stacks, MayPop}
use Rattle.wasm_operator_validator_state.specs.Entering.{MayBegin}
use Rattle.wasm_operator_validator_state.specs.laws.Rows.{some_row}
use Rattle.wasm_operator_validator_stacks.specs.determined.Operators.{IsPlain}
use Rattle.wasm_operator_validator_stacks.specs.determined.laws.Determined.{no_row}
use Rattle.wasm_operator_validator_control.specs.laws.Jumping.{IsLast, pops_last}
use Rattle.wasm_operator_validator_control.specs.laws.Labels.{one_label, not_labelled}

abbrev pub nop : Op
nop = op.Control control.Nop

abbrev pub unreachable : Op
unreachable = op.Control control.Unreachable

abbrev pub return : Op
return = op.Control control.Return

abbrev pub br : ℕ → Op
br d = op.Control (control.Br d)

abbrev pub br_if : ℕ → Op
br_if d = op.Control (control.BrIf d)

pub nop_is : IsPlain nop Mvp false
nop_is = record { of = refl; named = refl; plain = refl }

pub unreachable_is : IsPlain unreachable Mvp false
unreachable_is = record { of = refl; named = refl; plain = refl }

pub return_is : IsPlain return Mvp false
return_is = record { of = refl; named = refl; plain = refl }

pub br_is : (d : ℕ) → IsPlain (br d) Mvp false
br_is d = record { of = refl; named = refl; plain = refl }

pub br_if_is : (d : ℕ) → IsPlain (br_if d) Mvp false
br_if_is d = record { of = refl; named = refl; plain = refl }

pub unreachable_last : (m : Meaning) (σ : State) → IsLast m σ unreachable []
unreachable_last m σ popped pushed = (λ r. (popped, sym (append-nil popped)), λ r. tt)

pub return_last : (m : Meaning) (σ : State) (ts : List ValueType) → outermost_results m σ.opens ≡ ts → IsLast m σ return ts
return_last m σ ts e popped pushed = (
  λ (any, f). (any, f ∙ ap (λ (x : List ValueType). any ++ all_known x) e),
  λ (any, f). (any, f ∙ sym (ap (λ (x : List ValueType). any ++ all_known x) e)),
)

pub br_last : (m : Meaning) (σ : State) (d : ℕ) (ts : List ValueType) → slice_get (map (label m) σ.opens) d ≡ Some ts → IsLast m σ (br d) ts
br_last m σ d ts e popped pushed = (
  λ (us, any, f, g). (any, subst (λ (x : List ValueType). popped ≡ any ++ all_known x) (one_label ts us _ e f) g),
  λ (any, g). (ts, any, e, g),
)

pub no_br : (m : Meaning) (σ : State) (d : ℕ) → MayBegin σ Mvp false → slice_get (map (label m) σ.opens) d ≡ None → (os : List Op) × Accepts m σ (br d ∷ os) → ⊥
no_br m σ d b e = no_row m σ (br d) Mvp false (br_is d) b (λ popped pushed (us, any, f, g). not_labelled us _ e f)

pub br_if_row : (m : Meaning) (σ : State) (d : ℕ) (ts : List ValueType) → slice_get (map (label m) σ.opens) d ≡ Some ts → (popped pushed : List Operand)
    → GroupRow (context m σ.given σ.opens) (initialised m σ.given σ.inits) (br_if d) popped pushed ↔ Takes (ts ++ i32_type ∷ []) ts popped pushed
br_if_row m σ d ts e popped pushed = (
  λ (us, f, g). subst (λ (x : List ValueType). Takes (x ++ i32_type ∷ []) x popped pushed) (one_label ts us _ e f) g,
  λ g. (ts, e, g),
)

-- where it is accepted, a condition is on top
pub no_condition : (k : ErrorKind) (m : Meaning) (σ : State) (d : ℕ) → MayBegin σ Mvp false → Denies k (MayPop m σ (known i32_type ∷ [])) → Denies k ((os : List Op) × Accepts m σ (br_if d ∷ os))
no_condition k m σ d b =
    denies_from k _ _ (λ (os, a). (let (popped, pushed, rest, r, c) = some_row m σ (br_if d) os refl b.framed a in
    let (ts, f, t) = r.1 in
    pops_last m σ i32_type ts (rest, subst (λ (x : List Operand). Stacks m σ (reverse x ++ rest)) t.0 c)))

pub no_br_if : (m : Meaning) (σ : State) (d : ℕ) → MayBegin σ Mvp false → slice_get (map (label m) σ.opens) d ≡ None → (os : List Op) × Accepts m σ (br_if d ∷ os) → ⊥
no_br_if m σ d b e = no_row m σ (br_if d) Mvp false (br_if_is d) b (λ popped pushed (us, f, g). not_labelled us _ e f)
