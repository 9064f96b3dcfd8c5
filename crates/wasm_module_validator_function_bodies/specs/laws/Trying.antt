-- What an attempt with one operator leaves, done or taken back.
use Rattle.std.proofs.Common.{◌≡◌, ◌↔◌, ◌∙◌, List, ◌∷◌, Bool, true, false, Some, None, refl, ap, subst}
use Rattle.wasm_types.specs.decoding.Denials.{Denies}
use Rattle.wasm_types.specs.decoding.declared.error.ErrorKind.{ErrorKind}
use Rattle.wasm_types.specs.decoding.declared.error.ErrorKind.TheVariants as kinds
use Rattle.wasm_operators_enums.specs.Op.{Op}
use Rattle.wasm_operator_validator_arity.specs.resources.Meaning.{Meaning}
use Rattle.wasm_operator_validator_state.specs.State.{State, Accepts, Visits}
use Rattle.wasm_operator_validator_stacks.specs.Layout.{rolled_back, Begins}
use Rattle.wasm_operator_validator_stacks.specs.laws.Attempts.{taken_back_visits}
use Rattle.wasm_module_validator_function_bodies.specs.Trying.{settled, Tries}

-- what is not refused was not refused before
not_failed : (b : Bool) (k : ErrorKind) → (b ≡ true → None ≡ Some k) → false ≡ b
not_failed false k h = refl
not_failed true k h = let e : None ≡ Some k = h refl in cc

module _ (m : Meaning) (σ β τ : State) (o : Op) (b : Begins σ β) where
  -- an operator that was done
  pub tried : Visits m β o None τ → Tries m σ o None (settled τ)
  tried v = record {
    decides = subst (λ (x : State). (os : List Op) → Accepts m x (o ∷ os) ↔ Accepts m τ os) b.same v.decides;
    stopped = λ f. v.stopped (ap (λ (x : State). x.failed) b.same ∙ f);
    untouched = λ t. cc;
    given = v.given ∙ ap (λ (x : State). x.given) b.same;
    failed = v.failed ∙ not_failed σ.failed kinds.Failed (λ f. v.stopped (ap (λ (x : State). x.failed) b.same ∙ f));
    saved = refl;
  }

  -- an operator that was refused, and taken back
  pub untried : (k : ErrorKind) → Visits m β o (Some k) τ → Tries m σ o (Some k) (rolled_back τ)
  untried k v =
      let e : rolled_back τ ≡ settled σ = taken_back_visits m σ β τ o (Some k) b v in
      record {
        decides = subst (λ (x : State). Denies k ((os : List Op) × Accepts m x (o ∷ os))) b.same v.decides;
        stopped = λ f. v.stopped (ap (λ (x : State). x.failed) b.same ∙ f);
        untouched = λ t. e;
        given = ap (λ (x : State). x.given) e;
        failed = ap (λ (x : State). x.failed) e;
        saved = ap (λ (x : State). x.saved) e;
      }
