-- What holds of the end of a step holds of the offset that is settled on, except for the one behind all bytes.
use Rattle.std.proofs.Common.{◌≡◌, ◌<◌, ◌≤◌, ◌+◌, ◌⊎◌, inl, inr, ℕ, List, Option, Some, length, sym, subst, arith}
use Rattle.std.specs.Prelude.{IfSome}
use Rattle.wasm_operator_validator_fast_tables.specs.declared.tables.Open.{Open}
use Rattle.wasm_operator_validator_fast_tables.specs.declared.tables.Tables.{Tables}
use Rattle.wasm_operator_validator_fast_tables.specs.Nested.{Nested}
use Rattle.wasm_operator_validator_fast_tables.specs.Stacks.{Values}
use Rattle.wasm_operator_validator_fast_tables.specs.Loop.{Leads, all}

-- the offset that is settled on, behind all bytes or at the end of a step, and then the open frames are as the step left them
abbrev IsSettled : ℕ → Option ℕ → ℕ → Nested → Nested → Type 0
IsSettled n end r o new = (r ≡ n) ⊎ ((end ≡ Some r) × (new ≡ o))

settles : (P : Nested → ℕ → Type 0) (n : ℕ) (end : Option ℕ) (r : ℕ) (o new : Nested) → IsSettled n end r o new → IfSome end (λ e. P o e) → r < n → P new r
settles P n end r o new (inl past) h lt = absurd (omega (arith, past, lt))
settles P n end r o new (inr (there, same)) h lt = subst (λ x. P x r) (sym same) (subst (λ p. IfSome p (λ e. P o e)) there h)

pub settled_leads : (t : Tables) (text : List ℕ) (i : ℕ) (os : List Open) (v w : Values) (end : Option ℕ) (r : ℕ) (o new : Nested)
    → IsSettled (length text) end r o new → IfSome end (λ e. Leads text t i os v e (all o) w) → r < length text → Leads text t i os v r (all new) w
settled_leads t text i os v w end r o new h step lt = settles (λ x e. Leads text t i os v e (all x) w) (length text) end r o new h step lt

pub settled_forward : (i n : ℕ) (end : Option ℕ) (r : ℕ) (o new : Nested) → IsSettled n end r o new → i + 1 < n → IfSome end (λ e. i < e) → i < r
settled_forward i n end r o new (inl past) more h = omega (arith, past, more)
settled_forward i n end r o new (inr (there, same)) more h = subst (λ p. IfSome p (λ e. i < e)) there h

pub settled_inside : (n : ℕ) (end : Option ℕ) (r : ℕ) (o new : Nested) → IsSettled n end r o new → IfSome end (λ e. e ≤ n) → r ≤ n
settled_inside n end r o new (inl past) h = omega (arith, past)
settled_inside n end r o new (inr (there, same)) h = subst (λ p. IfSome p (λ e. e ≤ n)) there h
