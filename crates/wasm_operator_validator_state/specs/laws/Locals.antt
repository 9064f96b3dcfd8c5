-- A local that has a value from here on.
use Rattle.std.proofs.Common.{◌≡◌, ◌∙◌, ◌==◌, ◌||◌, ◌++◌, ◌∷◌, [], ℕ, Bool, true, false, List, if◌then◌else◌, refl, ap, subst}
use Rattle.std.specs.List.{list_any}
use Rattle.std.proofs.lemmas.Bool.{eqb-true}
use Rattle.std.proofs.lemmas.List.Folds.{list_any-append}
use Rattle.wasm_operator_validator_rules.specs.Context.{initialised_at_first}
use Rattle.wasm_operator_validator_resources.specs.Meaning.{Meaning}
use Rattle.wasm_operator_validator_state.specs.State.{Given, State, types_in, initialised}
use Rattle.wasm_operator_validator_state.specs.Steps.{with_init}

more : (a b c : Bool) → ((a || (b || false)) || c) ≡ (if b then true else (a || c))
more true true c = refl
more true false c = refl
more false true c = refl
more false false c = refl

pub one_more : (m : Meaning) (w : Given) (inits : List ℕ) (x k : ℕ) → initialised m w (inits ++ x ∷ []) k ≡ (if x == k then true else initialised m w inits k)
one_more m w inits x k =
    ap (λ (b : Bool). b || initialised_at_first w.params (types_in m w.locals) k) (list_any-append (λ (j : ℕ). j == k) inits (x ∷ []))
    ∙ more (list_any (λ (j : ℕ). j == k) inits) (x == k) (initialised_at_first w.params (types_in m w.locals) k)

already : (m : Meaning) (w : Given) (inits : List ℕ) (x k : ℕ) (b : Bool) → (x == k) ≡ b → initialised m w inits x ≡ true → initialised m w inits k ≡ (if b then true else initialised m w inits k)
already m w inits x k true e i = let h : x ≡ k = eqb-true x k e in subst (λ (j : ℕ). initialised m w inits j ≡ true) h i
already m w inits x k false e i = refl

-- exactly that local has a value besides those that had one
pub with_init_sets : (m : Meaning) (σ : State) (x : ℕ) → initialised m σ.given (with_init m σ x).inits ≡ (λ (k : ℕ). if x == k then true else initialised m σ.given σ.inits k)
with_init_sets m σ x = λ i k. at (initialised m σ.given σ.inits x) refl k i
  where
    at : (b : Bool) → initialised m σ.given σ.inits x ≡ b → (k : ℕ)
        → initialised m σ.given (if b then σ.inits else σ.inits ++ x ∷ []) k ≡ (if x == k then true else initialised m σ.given σ.inits k)
    at true e k = already m σ.given σ.inits x k (x == k) refl e
    at false e k = one_more m σ.given σ.inits x k
