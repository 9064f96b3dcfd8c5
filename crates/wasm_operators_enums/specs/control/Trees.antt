-- Operators that keep lists in memory, as plain trees (WebAssembly 3.0, structure, parametric and control instructions, and the
-- proposal on stack switching).
use Rattle.std.specs.Prelude.{ℕ, List}
use Rattle.wasm_types.specs.values.declared.value.ValType.{ValType}
use Rattle.wasm_operators_immediates.specs.declared.block.BlockType.{BlockType}
use Rattle.wasm_operators_immediates.specs.Tables.{CatchTable, catch_table_of}
use Rattle.wasm_operators_enums.specs.declared.control.ParametricOperator.{ParametricOperator}
use Rattle.wasm_operators_enums.specs.declared.control.ParametricOperator.TheVariants as parametric
use Rattle.wasm_operators_enums.specs.declared.exceptions.ExceptionOperator.{ExceptionOperator}
use Rattle.wasm_operators_enums.specs.declared.exceptions.ExceptionOperator.TheVariants as exception
use Rattle.wasm_operators_immediates.specs.declared.handlers.Handle.{Handle}
use Rattle.wasm_operators_enums.specs.declared.continuation.ContinuationOperator.{ContinuationOperator}
use Rattle.wasm_operators_enums.specs.declared.continuation.ContinuationOperator.TheVariants as continuation

-- what takes operands of any type
pub data ParametricTree : Type 0 where
  Drop : ParametricTree
  Select : ParametricTree
  TypedSelect : ValType → ParametricTree
  TypedSelectMulti : List ValType → ParametricTree

-- exceptions
pub data ExceptionTree : Type 0 where
  Try : BlockType → ExceptionTree
  Catch : ℕ → ExceptionTree
  Throw : ℕ → ExceptionTree
  Rethrow : ℕ → ExceptionTree
  ThrowRef : ExceptionTree
  Delegate : ℕ → ExceptionTree
  CatchAll : ExceptionTree
  TryTable : CatchTable → ExceptionTree

-- the trees of what the code holds
abbrev pub parametric_of : ParametricOperator → ParametricTree
parametric_of parametric.Drop = Drop
parametric_of parametric.Select = Select
parametric_of (parametric.TypedSelect ty) = TypedSelect ty
parametric_of (parametric.TypedSelectMulti tys) = TypedSelectMulti tys.items

-- the same of exceptions
abbrev pub exception_of : ExceptionOperator → ExceptionTree
exception_of (exception.Try blockty) = Try blockty
exception_of (exception.Catch tag_index) = Catch tag_index
exception_of (exception.Throw tag_index) = Throw tag_index
exception_of (exception.Rethrow relative_depth) = Rethrow relative_depth
exception_of exception.ThrowRef = ThrowRef
exception_of (exception.Delegate relative_depth) = Delegate relative_depth
exception_of exception.CatchAll = CatchAll
exception_of (exception.TryTable try_table) = TryTable (catch_table_of try_table)

-- continuations
pub data ContinuationTree : Type 0 where
  ContNew : ℕ → ContinuationTree
  ContBind : ℕ → ℕ → ContinuationTree
  Suspend : ℕ → ContinuationTree
  Resume : ℕ → List Handle → ContinuationTree
  ResumeThrow : ℕ → ℕ → List Handle → ContinuationTree
  ResumeThrowRef : ℕ → List Handle → ContinuationTree
  Switch : ℕ → ℕ → ContinuationTree

-- the same of continuations
abbrev pub continuation_of : ContinuationOperator → ContinuationTree
continuation_of (continuation.ContNew cont_type_index) = ContNew cont_type_index
continuation_of (continuation.ContBind argument_index result_index) = ContBind argument_index result_index
continuation_of (continuation.Suspend tag_index) = Suspend tag_index
continuation_of (continuation.Resume cont_type_index resume_table) = Resume cont_type_index resume_table.handlers.items
continuation_of (continuation.ResumeThrow cont_type_index tag_index resume_table) = ResumeThrow cont_type_index tag_index resume_table.handlers.items
continuation_of (continuation.ResumeThrowRef cont_type_index resume_table) = ResumeThrowRef cont_type_index resume_table.handlers.items
continuation_of (continuation.Switch cont_type_index tag_index) = Switch cont_type_index tag_index
