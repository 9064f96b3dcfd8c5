-- Which operators keep a list in memory. A copy of any other operator takes no memory.
use Rattle.std.specs.Prelude.{Bool, true, false}
use Rattle.wasm_operators_enums.specs.Op.{Op, Parametric, Exception, Continuation, ParametricTree, TypedSelectMulti, ExceptionTree, TryTable}
use Rattle.wasm_operators_enums.specs.Op.{ContinuationTree, Resume, ResumeThrow, ResumeThrowRef}

-- the types of `select`
abbrev pub parametric_keeps_list : ParametricTree → Bool
parametric_keeps_list (TypedSelectMulti tys) = true
parametric_keeps_list o = false

-- the clauses of `try_table`
abbrev pub exception_keeps_list : ExceptionTree → Bool
exception_keeps_list (TryTable try_table) = true
exception_keeps_list o = false

-- the handlers of `resume` and its like
abbrev pub continuation_keeps_list : ContinuationTree → Bool
continuation_keeps_list (Resume cont_type_index handlers) = true
continuation_keeps_list (ResumeThrow cont_type_index tag_index handlers) = true
continuation_keeps_list (ResumeThrowRef cont_type_index handlers) = true
continuation_keeps_list o = false

-- only these three groups have operators with a list
abbrev pub keeps_list : Op → Bool
keeps_list (Parametric o) = parametric_keeps_list o
keeps_list (Exception o) = exception_keeps_list o
keeps_list (Continuation o) = continuation_keeps_list o
keeps_list o = false
