-- What the check of an operator promises follows from its entry and from what it decides, and a visit's promise from its check's.
use Rattle.std.proofs.Common.{◌≡◌, ◌∙◌, Bool, true, false, Option, Some, None, refl, sym}
use Rattle.wasm_types.specs.decoding.declared.error.ErrorKind.{ErrorKind}
use Rattle.wasm_types.specs.decoding.declared.error.ErrorKind.TheVariants as kinds
use Rattle.wasm_types.specs.decoding.Denials.{Denies}
use Rattle.wasm_operators_immediates.specs.declared.proposal.Proposal.{Proposal}
use Rattle.wasm_operators_immediates.specs.declared.proposal.Proposal.TheVariants as proposals
use Rattle.wasm_operators_enums.specs.Op.{Op}
use Rattle.wasm_operators_enums.specs.declared.role.Role.TheVariants as role
use Rattle.wasm_operators_enums.specs.Roles.{role_of}
use Rattle.wasm_operator_validator_resources.specs.Meaning.{Meaning}
use Rattle.wasm_operator_validator_state.specs.Refusals.{kind_of}
use Rattle.wasm_operator_validator_state.specs.declared.refusal.Refusal.{Refusal}
use Rattle.wasm_operator_validator_state.specs.declared.refusal.Refusal.TheVariants as refusals
use Rattle.wasm_operator_validator_state.specs.State.{State, Decides, Checks, Visits}
use Rattle.wasm_operator_validator_state.specs.Entering.{MayBegin, StopsWith}
use Rattle.wasm_operator_validator_state.specs.laws.Entering.{IsOf, denied_begin, denied_at_first}

not_both : (b : Bool) → b ≡ false → b ≡ true → ⊥
not_both b e f = let x : false ≡ true = sym e ∙ f in cc

-- after a refusal the entry says so
pub stopped_so : (σ : State) (p : Proposal) (floats : Bool) (r : Refusal) → StopsWith σ p floats r → σ.failed ≡ true → ◌≡◌ {A = Option ErrorKind} (Some (kind_of r)) (Some kinds.Failed)
stopped_so σ p floats refusals.AfterRefusal s e = refl
stopped_so σ p floats refusals.AfterEnd s e = absurd (not_both σ.failed s.0 e)
stopped_so σ p floats (refusals.NotEnabled feature) s e = absurd (not_both σ.failed s.0 e)
stopped_so σ p floats r s e = absurd s

-- the operator may not begin
pub checks_stopped : (m : Meaning) (σ : State) (o : Op) (p : Proposal) (floats : Bool) (r : Refusal) → role_of o ≡ role.Plain → IsOf o p floats
    → Denies (kind_of r) (MayBegin σ p floats) → StopsWith σ p floats r → Checks m σ o (Some (kind_of r)) σ
checks_stopped m σ o p floats r e i d s = record {
  decides = denied_begin (kind_of r) m σ o p floats e i d;
  stopped = stopped_so σ p floats r s;
  given = refl;
  failed = refl;
  saved = refl;
}

-- the same of any operator of the first version
pub checks_stopped_at_first : (m : Meaning) (σ : State) (o : Op) (r : Refusal) → Denies (kind_of r) (MayBegin σ proposals.Mvp false)
    → StopsWith σ proposals.Mvp false r → Checks m σ o (Some (kind_of r)) σ
checks_stopped_at_first m σ o r d s = record {
  decides = denied_at_first (kind_of r) m σ o d;
  stopped = stopped_so σ proposals.Mvp false r s;
  given = refl;
  failed = refl;
  saved = refl;
}

-- it may, and was decided
pub checks_going : (a : Option ErrorKind) (m : Meaning) (σ τ : State) (o : Op) (p : Proposal) (floats : Bool) → MayBegin σ p floats → Decides m σ o a τ
    → τ.given ≡ σ.given → τ.failed ≡ σ.failed → τ.saved ≡ σ.saved → Checks m σ o a τ
checks_going a m σ τ o p floats b d g f s = record {
  decides = d;
  stopped = λ e. absurd (not_both σ.failed b.going e);
  given = g;
  failed = f;
  saved = s;
}

-- ---- a visit

pub visits_unrefused : (m : Meaning) (σ τ : State) (o : Op) → Checks m σ o None τ → Visits m σ o None τ
visits_unrefused m σ τ o c = record { decides = c.decides; stopped = c.stopped; given = c.given; failed = c.failed ∙ going σ.failed c.stopped; saved = c.saved }
  where
    going : (b : Bool) → (b ≡ true → ◌≡◌ {A = Option ErrorKind} None (Some kinds.Failed)) → b ≡ false
    going true n = let x = n refl in cc
    going false n = refl

pub visits_refused : (k : ErrorKind) (m : Meaning) (σ τ ρ : State) (o : Op) → Checks m σ o (Some k) τ → ρ ≡ record τ { failed = true } → Visits m σ o (Some k) ρ
visits_refused k m σ τ ρ o c e = record { decides = c.decides; stopped = c.stopped; given = rw e c.given; failed = rw e refl; saved = rw e c.saved }
