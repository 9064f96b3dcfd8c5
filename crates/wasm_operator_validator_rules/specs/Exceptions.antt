-- Rows of exceptions (WebAssembly 3.0, validation, control instructions; `try` and its clauses by the older form of the proposal on
-- exceptions), and what the clauses of `try_table` ask.
use Rattle.std.specs.Prelude.{◌≡◌, ℕ, Bool, true, false, List, [], ◌∷◌, ◌++◌, Some, slice_get}
use Rattle.wasm_types.specs.trees.Types.{ref, abstract, exn}
use Rattle.wasm_types.specs.trees.Trees.{TypeTree}
use Rattle.wasm_operators_immediates.specs.declared.handlers.Catch.{Catch}
use Rattle.wasm_operators_immediates.specs.declared.handlers.Catch.TheVariants as clause
use Rattle.wasm_operators_enums.specs.Op as op
use Rattle.wasm_operators_enums.specs.Op.{ExceptionTree}
use Rattle.wasm_operator_validator_rules.specs.Operands.{ValueType, Operand, AllBelow, known, all_known}
use Rattle.wasm_operator_validator_rules.specs.Context.{Context, IsFunctionType}
use Rattle.wasm_operator_validator_rules.specs.Taken.{IsLabel}

-- standard: valid-tagtype: a tag whose type has no results
-- a tag of exceptions that carry these values: nothing comes back from a handler (validation, types, tag types)
abbrev pub IsExceptionTag : Context → ℕ → List ValueType → Type 0
IsExceptionTag g x ts = (t : TypeTree) × (slice_get g.«module».tags x ≡ Some t) × IsFunctionType t (record { params = ts; results = [] })

-- a reference to an exception, that may be null (true) or not
abbrev pub exception : Bool → ValueType
exception n = ref n (abstract false exn)

-- standard: valid-instr-control: throw, throw_ref
-- standard: proposal-exceptions-older: rethrow
-- what is thrown is taken off, and the next place is not reached; only a clause of an older `try` has an exception to throw again
abbrev pub ExceptionRow : Context → ExceptionTree → List Operand → List Operand → Type 0
ExceptionRow g (op.Throw x) popped pushed = (ts : List ValueType) × (any : List Operand) × IsExceptionTag g x ts
    × (popped ≡ any ++ all_known ts)
ExceptionRow g op.ThrowRef popped pushed = (any : List Operand) × (popped ≡ any ++ known (exception true) ∷ [])
ExceptionRow g (op.Rethrow l) popped pushed = slice_get g.catches l ≡ Some true
ExceptionRow g o popped pushed = ⊥

-- standard: part of Catches
-- a branch with values of these types
abbrev pub Carries : Context → List ValueType → ℕ → Type 0
Carries g ts l = (us : List ValueType) × IsLabel g l us × AllBelow (all_known ts) (all_known us)

-- standard: valid-catch: catch, catch_ref, catch_all, catch_all_ref
-- a clause of `try_table`: what it catches goes to its label, which counts from around the `try_table`
abbrev pub Catches : Context → Catch → Type 0
Catches g (clause.One x l) = (ts : List ValueType) × IsExceptionTag g x ts × Carries g ts l
Catches g (clause.OneRef x l) = (ts : List ValueType) × IsExceptionTag g x ts × Carries g (ts ++ exception false ∷ []) l
Catches g (clause.All l) = Carries g [] l
Catches g (clause.AllRef l) = Carries g (exception false ∷ []) l

-- standard: valid-catch: catch*
abbrev pub EachCatches : Context → List Catch → Type 0
EachCatches g [] = Unit {0}
EachCatches g (c ∷ cs) = Catches g c × EachCatches g cs
