-- The row of `br_table`.
use Rattle.std.proofs.Common.{◌≡◌, ◌↔◌, ℕ, List, [], ◌∷◌, ◌++◌, Option, Some, None, false, reverse, refl, sym, subst, append_assoc, append-nil}
use Rattle.std.proofs.lemmas.List.{reverse-append, reverse-reverse}
use Rattle.wasm_types.specs.decoding.declared.error.ErrorKind.{ErrorKind}
use Rattle.wasm_types.specs.decoding.Denials.{Denies}
use Rattle.wasm_types.specs.decoding.DenialLaws.{denies, denies_from}
use Rattle.wasm_operators_immediates.specs.Tables.{Labels}
use Rattle.wasm_operators_immediates.specs.declared.proposal.Proposal.TheVariants.{Mvp}
use Rattle.wasm_operators_enums.specs.declared.control.ControlOperator.TheVariants as control
use Rattle.wasm_operators_enums.specs.Op as op
use Rattle.wasm_operators_enums.specs.Op.{Op}
use Rattle.wasm_operator_validator_rules.specs.Operands.{ValueType, Operand, known}
use Rattle.wasm_operator_validator_rules.specs.InstructionTypes.{i32_type}
use Rattle.wasm_operator_validator_rules.specs.Row.{FitEach}
use Rattle.wasm_operator_validator_state.specs.resources.Meaning.{Meaning}
use Rattle.wasm_operator_validator_state.specs.Refusals.{Does}
use Rattle.wasm_operator_validator_state.specs.State.{State, context, Accepts, Decides, Checks}
use Rattle.wasm_operator_validator_state.specs.Steps.{Stacks, SameFrames, Popped, MayPop, Jumped}
use Rattle.wasm_operator_validator_state.specs.Entering.{MayBegin}
use Rattle.wasm_operator_validator_state.specs.laws.Operands.{all_below_refl}
use Rattle.wasm_operator_validator_state.specs.laws.Rows.{by_row, some_row}
use Rattle.wasm_operator_validator_state.specs.laws.Entering.{enabled}
use Rattle.wasm_operator_validator_state.specs.laws.Checks.{checks_going}
use Rattle.wasm_operator_validator_stacks.specs.determined.Operators.{IsPlain, Stays}
use Rattle.wasm_operator_validator_stacks.specs.determined.laws.Same.{same_trans}
use Rattle.wasm_operator_validator_control.specs.laws.Labels.{same_labels}
use Rattle.wasm_operator_validator_control.specs.Fitting.{labels_of, EachBelow, MayBranch}

abbrev pub br_table : Labels → Op
br_table t = op.Control (control.BrTable t)

abbrev pub all_labels : Labels → List ℕ
all_labels t = t.default ∷ t.targets

pub br_table_is : (t : Labels) → IsPlain (br_table t) Mvp false
br_table_is t = record { of = refl; named = refl; plain = refl }

-- ---- labels

fit_labels : (m : Meaning) (σ : State) (s : List Operand) (more : List ℕ) → FitEach (context m σ.given σ.opens) s more ↔ EachBelow (labels_of m σ) s more
fit_labels m σ s [] = (λ x. tt, λ x. tt)
fit_labels m σ s (l ∷ more) = let r = fit_labels m σ s more in (λ (x, y). (x, r.0 y), λ (x, y). (x, r.1 y))

-- the labels are those of before
fit_after : (m : Meaning) (σ ρ : State) (s : List Operand) (more : List ℕ) → SameFrames σ.opens ρ.opens → FitEach (context m σ.given σ.opens) s more ↔ EachBelow (labels_of m ρ) s more
fit_after m σ ρ s more f =
    subst (λ (v : List (List ValueType)). FitEach (context m σ.given σ.opens) s more ↔ EachBelow v s more) (sym (same_labels m σ.opens ρ.opens f)) (fit_labels m σ s more)

-- ---- what is taken

popped_stack : (popped any s rest : List Operand) → popped ≡ any ++ (s ++ known i32_type ∷ []) → reverse popped ++ rest ≡ known i32_type ∷ (reverse s ++ (reverse any ++ rest))
popped_stack popped any s rest e = rw (e, reverse-append, reverse-append, append_assoc, append_assoc) refl

-- where it is accepted, an index is on top
pub no_index : (k : ErrorKind) (m : Meaning) (σ : State) (t : Labels) → MayBegin σ Mvp false → Denies k (MayPop m σ (known i32_type ∷ [])) → Denies k ((os : List Op) × Accepts m σ (br_table t ∷ os))
no_index k m σ t b =
    denies_from k _ _ (λ (os, a). (let (popped, pushed, rest, r, d) = some_row m σ (br_table t) os refl b.framed a in
    let (s, any, f, e) = r.1 in
    (reverse s ++ (reverse any ++ rest), subst (λ (v : List Operand). Stacks m σ v) (popped_stack popped any s rest e) d)))

-- and below it what fits
pub not_taken : (k : ErrorKind) (m : Meaning) (σ ρ : State) (t : Labels) → MayBegin σ Mvp false → Popped m σ (known i32_type ∷ []) ρ → (MayBranch m ρ (all_labels t) → ⊥)
    → Denies k ((os : List Op) × Accepts m σ (br_table t ∷ os))
not_taken k m σ ρ t b p never =
    denies k _ (λ (os, a). (let (popped, pushed, rest, r, d) = some_row m σ (br_table t) os refl b.framed a in
    let (s, any, f, e) = r.1 in
    never (
      s,
      reverse any ++ rest,
      (fit_after m σ ρ s (all_labels t) p.same.frames).0 f,
      (p.stacks (reverse s ++ (reverse any ++ rest))).0 (subst (λ (v : List Operand). Stacks m σ v) (popped_stack popped any s rest e) d),
    )))

-- ---- not refused

decided : (m : Meaning) (σ ρ τ : State) (t : Labels) → MayBegin σ Mvp false → Popped m σ (known i32_type ∷ []) ρ → MayBranch m ρ (all_labels t) → Jumped m ρ τ
    → (os : List Op) → Accepts m σ (br_table t ∷ os) ↔ Accepts m τ os
decided m σ ρ τ t b p (s, below, x, d) j =
    by_row m σ τ (br_table t) refl (λ set. refl) (same_trans σ ρ τ p.same j.same)
    (λ n y. (
      reverse below ++ (s ++ known i32_type ∷ []),
      reverse n,
      [],
      (enabled σ (br_table t) Mvp false (refl, refl) b, (s, reverse below, (fit_after m σ ρ s (all_labels t) p.same.frames).1 x, refl)),
      subst (λ (v : List Operand). Stacks m σ v) (sym (popped_stack (reverse below ++ (s ++ known i32_type ∷ [])) (reverse below) s [] refl))
          (rw (append-nil, reverse-reverse) ((p.stacks (reverse s ++ below)).1 d)),
      rw (reverse-reverse, append-nil) (all_below_refl n),
    ))
    (λ popped pushed rest r y. j.stacks (reverse pushed ++ rest))

jumped : (r : Option ErrorKind) (m : Meaning) (σ ρ τ : State) (t : Labels) → MayBegin σ Mvp false → Popped m σ (known i32_type ∷ []) ρ → MayBranch m ρ (all_labels t)
    → Does r (Jumped m ρ τ) (Unit {0}) → Decides m σ (br_table t) r τ
jumped None m σ ρ τ t b p x j = decided m σ ρ τ t b p x j
jumped (Some e) m σ ρ τ t b p x j = denies_from e _ _ (λ y. tt) j

pub checked : (r : Option ErrorKind) (m : Meaning) (σ ρ τ : State) (t : Labels) → MayBegin σ Mvp false → Popped m σ (known i32_type ∷ []) ρ → MayBranch m ρ (all_labels t)
    → Does r (Jumped m ρ τ) (Unit {0}) → Stays σ τ → Checks m σ (br_table t) r τ
checked r m σ ρ τ t b p x j s = checks_going r m σ τ (br_table t) Mvp false b (jumped r m σ ρ τ t b p x j) s.given s.failed s.saved
