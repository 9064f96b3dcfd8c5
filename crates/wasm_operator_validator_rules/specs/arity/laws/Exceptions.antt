-- The rows of exceptions are counted by the table, and what clauses begin with.
use Rattle.std.proofs.Common.{◌≡◌, ◌+◌, inr, ℕ, true, [], ◌∷◌, List, length, Option, Some, slice_get, refl, sym, ap, arith, append-nil}
use Rattle.wasm_operators_enums.specs.Op as op
use Rattle.wasm_operators_enums.specs.Op.{ExceptionTree}
use Rattle.wasm_operator_validator_rules.specs.Operands.{ValueType, Operand, known, all_known}
use Rattle.wasm_operator_validator_rules.specs.Context.{Context}
use Rattle.wasm_operator_validator_rules.specs.Exceptions.{IsExceptionTag, ExceptionRow, exception}
use Rattle.wasm_operator_validator_rules.specs.arity.Arity.{Known, Counts, type_counts, counts_of}
use Rattle.wasm_operator_validator_rules.specs.arity.Exchanges.{Standing, IsAround}
use Rattle.wasm_operator_validator_rules.specs.arity.laws.Counting.{known_length, type_counted, Counted}

abbrev just : ℕ → ℕ → Option Counts
just n c = Some (n, c)

-- a tag takes what it carries and gives nothing
pub tag_counted : (g : Context) (x : ℕ) (ts : List ValueType) → IsExceptionTag g x ts → type_counts (slice_get g.«module».tags x) ≡ just (length ts) 0
tag_counted g x ts (t, e, p) = type_counted _ t (record { params = ts; results = [] }) e p

pub exception_counted : (k : Known) (g : Context) (fs : List Standing) → IsAround k g fs → (o : ExceptionTree) (p q : List Operand) → ExceptionRow g o p q
    → Counted (counts_of k (op.Exception o)) (ExceptionRow g o) p q
exception_counted k g fs a (op.Throw x) p q r =
    let none : length r.0 + 0 ≡ length r.0 = omega arith in
    inr (r.1, all_known r.0, r.3, rw (a.«module», tag_counted g x r.0 r.2, known_length r.0) (ap (λ (n : ℕ). just n 0) none), (r.0, [], r.2, refl))
exception_counted k g fs a op.ThrowRef p q r = inr (r.0, known (exception true) ∷ [], r.1, refl, ([], refl))
exception_counted k g fs a (op.Rethrow l) p q r = inr (p, [], sym (append-nil p), refl, r)
exception_counted k g fs a o p q r = absurd r
