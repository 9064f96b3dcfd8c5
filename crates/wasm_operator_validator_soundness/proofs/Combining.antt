-- Steps that are put together are okay where their parts are.
use Rattle.std.proofs.Common.{◌≡◌, List, [], ◌∷◌, ◌++◌, length, Option, Some, Bool, true, false, refl, sym, subst}
use Rattle.std.specs.Prelude.{take, drop}
use Rattle.wasm_operator_validator_rules.specs.Operands.{ValueType, Operand, stack}
use Rattle.wasm_operator_validator_soundness.specs.runs.Notes.{Notes}
use Rattle.wasm_operator_validator_soundness.specs.runs.Values.{Program, Value, FitsOperand, AllFit, EachFits}
use Rattle.wasm_operator_validator_soundness.specs.runs.States.{Answer, Outcome, trapped, Move, done, refused, asks, allows, choose, found, pops}
use Rattle.wasm_operator_validator_soundness.specs.runs.Machine.{takes, gives, copies, may_trap}
use Rattle.wasm_operator_validator_soundness.proofs.RunsFitting.{taken_fit, left_fit}
use Rattle.wasm_operator_validator_soundness.specs.runs.ValidStates.{IsValidOutcomeBy}
use Rattle.wasm_operator_validator_soundness.proofs.RunsInvariant.{IsOkay}

module _ (N : Notes) (p : Program) (final : List ValueType) where
  pub done_okay : (o : Outcome) → IsValidOutcomeBy N p final o → IsOkay N p final (done o)
  done_okay o g = record { okay = λ given. (tt, g) }

  pub refused_okay : IsOkay N p final refused
  refused_okay = record { okay = λ given. absurd given }

  pub asks_okay : (P : Type 0) (m : Move) → P → IsOkay N p final m → IsOkay N p final (asks P m)
  asks_okay P m x k = record { okay = λ given. let r = k.okay given in ((x, r.0), r.1) }

  pub allows_okay : (P : Type 0) (m : Move) → (P → IsOkay N p final m) → IsOkay N p final (allows P m)
  allows_okay P m k = record { okay = λ given. (k given.0).okay given.1 }

  pub choose_okay : (b : Bool) (m n : Move) → (b ≡ true → IsOkay N p final m) → (b ≡ false → IsOkay N p final n) → IsOkay N p final (choose b m n)
  choose_okay true m n k l = k refl
  choose_okay false m n k l = l refl

  pub found_okay : {A : Type 0} (o : Option A) (x : A) (f : A → Move) → o ≡ Some x → IsOkay N p final (f x) → IsOkay N p final (found o f)
  found_okay {A} o x f e k = subst (λ (q : Option A). IsOkay N p final (found q f)) (sym e) k

  pub pops_okay : (vs : List Value) (t : Operand) (rest : List Operand) (f : Value → List Value → Move) → AllFit p vs (t ∷ rest)
      → ((v : Value) (ws : List Value) → FitsOperand p v t → AllFit p ws rest → IsOkay N p final (f v ws)) → IsOkay N p final (pops vs f)
  pops_okay [] t rest f w k = absurd w
  pops_okay (v ∷ vs) t rest f w k = k v vs w.0 w.1

  module _ (a : Answer) where
    pub takes_okay : (ts : List ValueType) (vs : List Value) (rest : List Operand) (f : List Value → List Value → Move) → AllFit p vs (stack ts ++ rest)
        → ((us ws : List Value) → AllFit p us (stack ts) → AllFit p ws rest → IsOkay N p final (f us ws)) → IsOkay N p final (takes p a ts vs f)
    takes_okay ts vs rest f w k =
        let u = taken_fit p ts rest vs w in
        asks_okay (AllFit p (take (length ts) vs) (stack ts)) (f (take (length ts) vs) (drop (length ts) vs)) u
        (k (take (length ts) vs) (drop (length ts) vs) u (left_fit p ts rest vs w))

    pub gives_okay : (ts : List ValueType) (f : List Value → Move) → ((us : List Value) → AllFit p us (stack ts) → IsOkay N p final (f us)) → IsOkay N p final (gives p a ts f)
    gives_okay ts f k = allows_okay (AllFit p a.values (stack ts)) (f a.values) (k a.values)

    pub copies_okay : (s t : ValueType) (m : Move) → (EachFits p a.values s → EachFits p a.values t) → IsOkay N p final m → IsOkay N p final (copies p a s t m)
    copies_okay s t m b k = allows_okay (EachFits p a.values s) (asks (EachFits p a.values t) m) (λ i. asks_okay (EachFits p a.values t) m (b i) k)

    pub may_trap_okay : (m : Move) → IsOkay N p final m → IsOkay N p final (may_trap p a m)
    may_trap_okay m k = choose_okay a.traps (done trapped) m (λ e. done_okay trapped tt) (λ e. k)
