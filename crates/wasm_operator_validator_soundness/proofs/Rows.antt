-- What rows of the table of instruction types take and give, and by what they are answered.
use Rattle.std.proofs.Common.{◌≡◌, refl, List, length, reverse, Some, sym, ap, subst, ◌∙◌}
use Rattle.std.proofs.lemmas.List.{length-map}
use Rattle.wasm_operators_enums.specs.Op.{Op}
use Rattle.wasm_operator_validator_rules.specs.Operands.{Operand, known, all_known, stack}
use Rattle.wasm_operator_validator_rules.specs.Context.{Context}
use Rattle.wasm_operator_validator_rules.specs.InstructionTypes.{InstructionType, instruction_type}
use Rattle.wasm_operator_validator_rules.specs.Row.{TableRow}
use Rattle.wasm_operator_validator_soundness.specs.Values.{Value, AllFit}
use Rattle.wasm_operator_validator_soundness.specs.States.{Answer, front, AreOnTop}
use Rattle.wasm_operator_validator_soundness.specs.Machine.{context_at}
use Rattle.wasm_operator_validator_soundness.specs.Beginning.{TableAnswered}
use Rattle.wasm_operator_validator_soundness.proofs.Invariant.{some_same}

module _ (g : Context) (o : Op) (t : InstructionType) (e : instruction_type g o ≡ Some t) where
  -- values of the types that it gives, for as many as it takes, fit each row
  pub table_fits : (a : Answer) → length t.takes ≡ a.taken → AllFit a.values (stack t.gives) → (popped pushed : List Operand) → TableRow g o popped pushed
      → (length popped ≡ a.taken) × AllFit a.values (reverse pushed)
  table_fits a n f popped pushed r =
      let same : r.0 ≡ t = some_same r.0 t (sym r.1 ∙ e) in (
        ap (λ (l : List Operand). length l) r.2.0 ∙ (length-map (r.0).takes known ∙ (ap (λ (u : InstructionType). length u.takes) same ∙ n)),
        subst (λ (l : List Operand). AllFit a.values (reverse l)) (sym r.2.1) (subst (λ (u : InstructionType). AllFit a.values (stack u.gives)) (sym same) f),
      )

  -- and the values that a row takes are of the types that it takes
  pub table_takes : (vs : List Value) (popped pushed : List Operand) → TableRow g o popped pushed → AllFit (front (reverse popped) vs) (reverse popped) → AreOnTop t.takes vs
  table_takes vs popped pushed r f =
      let same : r.0 ≡ t = some_same r.0 t (sym r.1 ∙ e) in
      subst (λ (l : List Operand). AllFit (front (reverse l) vs) (reverse l)) (r.2.0 ∙ ap (λ (u : InstructionType). all_known u.takes) same) f

pub table_answered : TableAnswered
table_answered g k a o t n e rows f = (
  λ given.
      let r = given (all_known t.takes) (all_known t.gives) ((n, (rows (all_known t.takes) (all_known t.gives)).1 (t, e, (refl, refl))), f) in
      (sym (length-map t.takes known) ∙ r.0, r.1),
  λ w popped pushed r. table_fits (context_at g k) o t e a w.0 w.1 popped pushed ((rows popped pushed).0 r.0.1),
)
