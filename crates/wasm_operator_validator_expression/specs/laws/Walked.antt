-- What visits of operators one after the other do to a validator.
use Rattle.std.proofs.Common.{◌≡◌, ◌↔◌, ◌∙◌, ℕ, List, [], ◌∷◌, ◌++◌, Option, None, false, refl, sym, subst}
use Rattle.wasm_types.specs.decoding.declared.error.ErrorKind.{ErrorKind}
use Rattle.wasm_operators_enums.specs.Op.{Op}
use Rattle.wasm_operators_reader.specs.Standing.{Standing}
use Rattle.wasm_operators_reader.specs.Walking.{VisitsAll}
use Rattle.wasm_operators_reader.specs.walks.Whole.{TellsTo, TellsUntilAt}
use Rattle.wasm_operator_validator_state.specs.resources.Meaning.{Meaning}
use Rattle.wasm_operator_validator_state.specs.State.{State, Accepts, Visits}

-- ---- of a visitor that holds a validator

-- A visitor's relation says of the validator that it holds what a visit promises, and keeps this of the visitor.
module _ {V A : Type 0} (visits : V → Op → A → V → Type 0) (m : Meaning) (state : V → State) (told : A → V → Option ErrorKind) (keeps : V → Type 0)
    (holds : (v : V) (o : Op) (a : A) (w : V) → keeps v → visits v o a w → Visits m (state v) o (told a w) (state w) × keeps w)
    (answer : A) (accepted : (w : V) → told answer w ≡ None) where
  pub all_of_state : (os : List Op) (v w : V) → keeps v → VisitsAll visits answer v os w → VisitsAll (Visits m) None (state v) os (state w) × keeps w
  all_of_state [] v w k e = (subst (λ (x : V). state x ≡ state v) (sym e) refl, subst keeps (sym e) k)
  all_of_state (o ∷ os) v w k (x, h, more) =
      let one = holds v o answer x k h in
      let rest = all_of_state os x w one.1 more in
      ((state x, subst (λ (a : Option ErrorKind). Visits m (state v) o a (state x)) (accepted x) one.0, rest.0), rest.1)

  pub walk_of_state : (s t : Standing) (v w : V) → keeps v → TellsTo visits answer s v t w → TellsTo (Visits m) None s (state v) t (state w) × keeps w
  walk_of_state s t v w k (os, run, all) =
      let of = all_of_state os v w k all in
      ((os, run, of.0), of.1)

  pub until_of_state : (s : Standing) (v w : V) (last : A) (place : ℕ) → keeps v → TellsUntilAt visits answer s v last w place
      → TellsUntilAt (Visits m) None s (state v) (told last w) (state w) place × keeps w
  until_of_state s v w last place k (t, n, walked, o, u, read, h, at) =
      let of = walk_of_state s t v n k walked in
      let one = holds n o last w of.1 h in
      ((t, state n, of.0, o, u, read, one.0, at), one.1)

-- ---- of the validator

-- what never changes, what was saved, and that nothing was refused
pub record Stays (σ τ : State) : Type 0 where
  pub given : τ.given ≡ σ.given
  pub failed : σ.failed ≡ false → τ.failed ≡ false
  pub saved : τ.saved ≡ σ.saved

pub all_stay : (m : Meaning) (os : List Op) (σ τ : State) → VisitsAll (Visits m) None σ os τ → Stays σ τ
all_stay m [] σ τ e = subst (Stays σ) (sym e) (record { given = refl; failed = λ f. f; saved = refl })
all_stay m (o ∷ os) σ τ (ρ, v, more) =
    let rest = all_stay m os ρ τ more in
    record { given = rest.given ∙ v.given; failed = λ f. rest.failed v.failed; saved = rest.saved ∙ v.saved }

-- what may follow what was accepted
pub accepted_on : (m : Meaning) (os rest : List Op) (σ τ : State) → VisitsAll (Visits m) None σ os τ → Accepts m σ (os ++ rest) ↔ Accepts m τ rest
accepted_on m [] rest σ τ e = subst (λ (ρ : State). Accepts m σ rest ↔ Accepts m ρ rest) (sym e) (λ x. x, λ x. x)
accepted_on m (o ∷ os) rest σ τ (ρ, v, more) =
    let on = accepted_on m os rest ρ τ more in
    (λ x. on.0 ((v.decides (os ++ rest)).0 x), λ x. (v.decides (os ++ rest)).1 (on.1 x))
