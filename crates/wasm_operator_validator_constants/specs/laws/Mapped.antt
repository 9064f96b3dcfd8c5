-- A walk of a visitor, by what its visits do to a state that it holds.
use Rattle.std.proofs.Common.{◌≡◌, ℕ, List, [], ◌∷◌, refl, sym, subst}
use Rattle.wasm_operators_enums.specs.Op.{Op}
use Rattle.wasm_operators_reader.specs.Standing.{Standing}
use Rattle.wasm_operators_reader.specs.Walking.{VisitsAll}
use Rattle.wasm_operators_reader.specs.walks.Whole.{TellsTo, TellsUntilAt}

-- A visitor's relation says of the state what another relation does, and keeps this of the visitor.
module _ {V S A B : Type 0} (visits : V → Op → A → V → Type 0) (does : S → Op → B → S → Type 0) (state : V → S) (told : A → B) (keeps : V → Type 0)
    (holds : (v : V) (o : Op) (a : A) (w : V) → keeps v → visits v o a w → does (state v) o (told a) (state w) × keeps w)
    (answer : A) (accepted : B) (same : told answer ≡ accepted) where
  pub all_by_state : (os : List Op) (v w : V) → keeps v → VisitsAll visits answer v os w → VisitsAll does accepted (state v) os (state w) × keeps w
  all_by_state [] v w k e = (subst (λ (x : V). state x ≡ state v) (sym e) refl, subst keeps (sym e) k)
  all_by_state (o ∷ os) v w k (x, h, more) =
      let one = holds v o answer x k h in
      let rest = all_by_state os x w one.1 more in
      ((state x, subst (λ (b : B). does (state v) o b (state x)) same one.0, rest.0), rest.1)

  pub walk_by_state : (s t : Standing) (v w : V) → keeps v → TellsTo visits answer s v t w → TellsTo does accepted s (state v) t (state w) × keeps w
  walk_by_state s t v w k (os, run, all) =
      let of = all_by_state os v w k all in
      ((os, run, of.0), of.1)

  pub until_by_state : (s : Standing) (v w : V) (last : A) (place : ℕ) → keeps v → TellsUntilAt visits answer s v last w place
      → TellsUntilAt does accepted s (state v) (told last) (state w) place
  until_by_state s v w last place k (t, n, walked, o, u, read, h, at) =
      let of = walk_by_state s t v n k walked in
      (t, state n, of.0, o, u, read, (holds n o last w of.1 h).0, at)
