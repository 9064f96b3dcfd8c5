-- Operators on exceptions: rows that hold and rows that do not, and clauses of `try_table`.
use Rattle.std.specs.Prelude.{true, false, List, [], ◌∷◌, None}
use Rattle.wasm_types.specs.trees.Types.{i32, i64, func, number, ref, abstract, function}
use Rattle.wasm_types.specs.trees.Trees.{TypeTree}
use Rattle.wasm_types.specs.trees.worked.Types.{alone, declared_entry}
use Rattle.wasm_operators_immediates.specs.declared.handlers.Catch.TheVariants as clause
use Rattle.wasm_operators_enums.specs.Op as op
use Rattle.wasm_operator_validator_rules.specs.Operands.{ValueType, Operand, bottom, known}
use Rattle.wasm_operator_validator_rules.specs.Context.{Module, Context}
use Rattle.wasm_operator_validator_rules.specs.Exceptions.{ExceptionRow, Catches, exception}
use Rattle.wasm_operator_validator_rules.specs.Row.{Row}
use Rattle.wasm_operator_validator_rules.specs.worked.Contexts.{some_module, somewhere, widening, any_function}
use Rattle.wasm_operator_validator_rules.specs.worked.Operators.{i32_known, i64_known, all, Does, IsRefused}

abbrev pub from_to : List ValueType → List ValueType → TypeTree
from_to ps rs = alone (declared_entry None false (function ps rs))

-- Tags that carry an i32, that carry an i64 and give back an i32, that carry nothing, and that carry a reference to an exception, or
-- null. Types from an i32 to an i64, and from an i32 to an i32.
abbrev pub with_tags : Module
with_tags = record some_module {
  types = widening ∷ from_to (number i32 ∷ []) (number i32 ∷ []) ∷ [];
  tags = from_to (number i32 ∷ []) [] ∷ from_to (number i64 ∷ []) (number i32 ∷ []) ∷ from_to [] [] ∷ from_to (exception true ∷ []) [] ∷ [];
}

abbrev pub here : Context
here = record somewhere { «module» = with_tags }

-- within frames to which a branch takes these
abbrev pub under : List ValueType → Context
under ts = record here { labels = ts ∷ (number i32 ∷ []) ∷ [] }

-- in a block within a clause
abbrev pub caught : Context
caught = record here { catches = false ∷ true ∷ [] }

abbrev pub without_exceptions : Context
without_exceptions = record here { bits = 0 }

abbrev pub a_function : ValueType
a_function = ref false (abstract false func)

-- there is no such row, whatever is taken and given
abbrev pub HasNo : (List Operand → List Operand → Type 0) → Type 0
HasNo R = (popped pushed : List Operand) → R popped pushed → ⊥

pub record ExceptionsWorked : Type 0 where
  pub throw : ExceptionRow here (op.Throw 0) (i64_known ∷ i32_known ∷ []) (bottom ∷ [])
  pub throw_nothing : ExceptionRow here (op.Throw 2) [] (i64_known ∷ [])
  pub throw_other : ExceptionRow here (op.Throw 0) (i64_known ∷ []) [] → ⊥
  pub throw_gives : HasNo (ExceptionRow here (op.Throw 1))
  pub throw_unknown : HasNo (ExceptionRow here (op.Throw 4))
  pub throw_enabled : Row here all (op.Exception (op.Throw 2)) [] []
  pub throw_without : IsRefused without_exceptions all (op.Exception (op.Throw 2))
  pub throw_ref : ExceptionRow here op.ThrowRef (known (exception true) ∷ []) []
  pub throw_ref_of_function : ExceptionRow here op.ThrowRef (known any_function ∷ []) [] → ⊥
  pub throw_ref_without : IsRefused without_exceptions all (op.Exception op.ThrowRef)
  pub rethrow : ExceptionRow caught (op.Rethrow 1) (i64_known ∷ []) []
  pub rethrow_block : HasNo (ExceptionRow caught (op.Rethrow 0))
  pub rethrow_unknown : HasNo (ExceptionRow caught (op.Rethrow 2))
  pub rethrow_without : IsRefused (record caught { bits = 0 }) all (op.Exception (op.Rethrow 1))

pub record CatchesWorked : Type 0 where
  pub one : Catches (under (number i32 ∷ [])) (clause.One 0 0)
  pub one_outwards : Catches (under []) (clause.One 0 1)
  pub one_other : Catches (under (number i64 ∷ [])) (clause.One 0 0) → ⊥
  pub one_more : Catches (under (number i32 ∷ number i32 ∷ [])) (clause.One 0 0) → ⊥
  pub one_wider : Catches (under (exception false ∷ [])) (clause.One 3 0) → ⊥
  pub one_gives : Catches (under (number i64 ∷ [])) (clause.One 1 0) → ⊥
  pub one_unknown : Catches (under (number i32 ∷ [])) (clause.One 0 2) → ⊥
  pub one_ref : Catches (under (number i32 ∷ exception false ∷ [])) (clause.OneRef 0 0)
  pub one_ref_narrower : Catches (under (number i32 ∷ exception true ∷ [])) (clause.OneRef 0 0)
  pub one_ref_turned : Catches (under (exception false ∷ number i32 ∷ [])) (clause.OneRef 0 0) → ⊥
  pub one_ref_alone : Catches (under (number i32 ∷ [])) (clause.OneRef 0 0) → ⊥
  pub all_of_them : Catches (under []) (clause.All 0)
  pub all_carries : Catches (under (number i32 ∷ [])) (clause.All 0) → ⊥
  pub all_unknown : Catches (under []) (clause.All 2) → ⊥
  pub all_ref : Catches (under (exception false ∷ [])) (clause.AllRef 0)
  pub all_ref_narrower : Catches (under (exception true ∷ [])) (clause.AllRef 0)
  pub all_ref_other : Catches (under (a_function ∷ [])) (clause.AllRef 0) → ⊥
  pub all_ref_alone : Catches (under []) (clause.AllRef 0) → ⊥
