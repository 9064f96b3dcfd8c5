-- Operators on numbers: those on integers give what their functions say, and what the others give comes from outside.
use Rattle.std.proofs.Common.{◌≡◌, ℕ, IsTrue, false, List, [], ◌∷◌, Option, Some, None, refl, sym, subst, ◌∙◌, get_or}
use Rattle.wasm_operators_enums.specs.declared.numeric.NumericOperator.{NumericOperator}
use Rattle.wasm_operators_enums.specs.Table.{info_of}
use Rattle.wasm_operators_enums.specs.Op as op
use Rattle.wasm_operators_enums.specs.Op.{Op}
use Rattle.wasm_operators_encoding.specs.expressions.Code.{Code, plain}
use Rattle.wasm_operator_validator_rules.specs.Operands.{ValueType, stack}
use Rattle.wasm_operator_validator_rules.specs.Numbers.{numbers}
use Rattle.wasm_operator_validator_soundness.specs.runs.Values.{Program, number_value, AllFit}
use Rattle.wasm_operator_validator_soundness.specs.runs.States.{Activation, Answer}
use Rattle.wasm_operator_validator_soundness.specs.runs.Names.{Places, computed}
use Rattle.wasm_operator_validator_soundness.specs.runs.Machine.{compute}
use Rattle.wasm_operator_validator_soundness.specs.runs.Soundness.{IsValidProgram}
use Rattle.wasm_operator_validator_store.specs.Stores.{Store, nothing, bits_of}
use Rattle.wasm_operator_validator_store.specs.Integers.{Operation, integer_operation}
use Rattle.wasm_operator_validator_store.specs.Giving.{OrTraps, Gives, OrOutside, Calculates}
use Rattle.wasm_operator_validator_store.specs.Soundness.{AreValid}
use Rattle.wasm_operator_validator_store.proofs.Lists.{same_some}
use Rattle.wasm_operator_validator_store.proofs.Answering.{IsDone, found_answer}
use Rattle.wasm_operator_validator_store.proofs.Accessing.{unchanged, values_known, exchanged, exchange_traps}
use Rattle.wasm_operator_validator_store.proofs.Control.{outside_done}
use Rattle.wasm_operator_validator_store.proofs.Integers.{row_is}

module _ (p : Program) (valid : IsValidProgram p) (results : List ValueType) (act : Activation) (acts : List Activation) (s : Store)
    (v : AreValid p results (act ∷ acts) s) (more : Code) (a : Answer) (u : Store) where
  abbrev Done : Op → Type 0
  Done o = IsDone p act acts (plain o more) s a u

  compute_answers : (o : Op) (n : Places) → computed (info_of o).name ≡ Some n → a.traps ≡ false → AllFit p a.values (stack (numbers n.gives))
      → (compute p a act acts o more).is_answer
  compute_answers o n b t f = found_answer {A = Places} (computed (info_of o).name) _ (λ (k : Places) c.
      exchanged p valid results act acts s v more a u (numbers k.takes) (numbers k.gives) t
      (subst (λ (j : Places). AllFit p a.values (stack (numbers j.gives))) (same_some n k (sym b ∙ c)) f))

  compute_falls : (o : Op) → IsTrue a.traps → (compute p a act acts o more).is_answer
  compute_falls o t = found_answer {A = Places} (computed (info_of o).name) _ (λ (n : Places) c.
      exchange_traps p valid results act acts s v more a u (numbers n.takes) (numbers n.gives) t)

  calculated : (o : NumericOperator) (r : Operation) → integer_operation o ≡ Some r → (k : Option ℕ)
      → OrTraps p (act ∷ acts) s a u k (λ b. Gives p (act ∷ acts) s a u (number_value r.gives b ∷ []) s) → Done (op.Numeric o)
  calculated o r e None h = unchanged p valid results act acts s v (plain (op.Numeric o) more) a u h.1.1 (compute_falls (op.Numeric o) h.0)
      (values_known p valid results act acts s v s a [] h.1.0 tt) tt
  calculated o r e (Some b) h = unchanged p valid results act acts s v (plain (op.Numeric o) more) a u h.2
      (compute_answers (op.Numeric o) (record { takes = r.takes; gives = r.gives ∷ [] }) (row_is o r e).places h.1
      (subst (λ ws. AllFit p ws (stack (numbers (r.gives ∷ [])))) (sym h.0) ((tt, refl), tt)))
      (values_known p valid results act acts s v s a (number_value r.gives b ∷ []) h.0 (tt, tt)) tt

  pub numeric_done : (o : NumericOperator) (k : Option Operation) → integer_operation o ≡ k → act.innermost.code ≡ plain (op.Numeric o) more
      → OrOutside p (act ∷ acts) s a u act k (Calculates p (act ∷ acts) s a u act) → Done (op.Numeric o)
  numeric_done o None e c h = outside_done p valid results act acts s v more a u (op.Numeric o) c tt h
  numeric_done o (Some r) e c h = calculated o r e
      (r.value (bits_of (get_or act.innermost.values 1 nothing)) (bits_of (get_or act.innermost.values 0 nothing))) h
