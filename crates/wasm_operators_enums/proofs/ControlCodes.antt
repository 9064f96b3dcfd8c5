-- Operators of control, exceptions and continuations are found by prefix and code, and made of their immediates.
use Rattle.std.proofs.Common.{List, [], ◌∷◌, map, refl, ◌≡◌, true, true≢false, sym}
use Rattle.wasm_operators_immediates.proofs.Codes.{Told, Made}
use Rattle.wasm_types.specs.values.declared.value.ValType.{ValType}
use Rattle.wasm_types.specs.values.declared.value.ValType.TheVariants.{I32}
use Rattle.wasm_operators_immediates.specs.declared.block.BlockType.TheVariants.{Empty}
use Rattle.wasm_operators_immediates.specs.Immediates.{kind_of}
use Rattle.wasm_operators_immediates.proofs.Makers.{Maker, bare, block, clauses, labels, number, one, some_clauses, some_labels, two, types, handlers, three}
use Rattle.wasm_operators_enums.specs.control.Table.{control_info, parametric_info, exception_info, continuation_info}
use Rattle.wasm_operators_enums.specs.control.Immediates.{control_immediates, parametric_immediates, exception_immediates, is_canonical, continuation_immediates}
use Rattle.wasm_operators_enums.specs.declared.control.ControlOperator.{ControlOperator}
use Rattle.wasm_operators_enums.specs.declared.control.ControlOperator.TheVariants as control
use Rattle.wasm_operators_enums.specs.control.Trees as tree
use Rattle.wasm_operators_enums.specs.control.Trees.{ParametricTree, ExceptionTree, ContinuationTree}

-- ---- control

abbrev pub control_list : List (ControlOperator × Maker ControlOperator)
control_list =
    (control.Unreachable, bare control.Unreachable) ∷
    (control.Nop, bare control.Nop) ∷
    (control.Block Empty, one block control.Block) ∷
    (control.Loop Empty, one block control.Loop) ∷
    (control.If Empty, one block control.If) ∷
    (control.Else, bare control.Else) ∷
    (control.End, bare control.End) ∷
    (control.Br 0, one number control.Br) ∷
    (control.BrIf 0, one number control.BrIf) ∷
    (control.BrTable some_labels, one labels control.BrTable) ∷
    (control.Return, bare control.Return) ∷
    (control.Call 0, one number control.Call) ∷
    (control.CallIndirect 0 0, two number number control.CallIndirect) ∷
    (control.ReturnCall 0, one number control.ReturnCall) ∷
    (control.ReturnCallIndirect 0 0, two number number control.ReturnCallIndirect) ∷
    (control.CallRef 0, one number control.CallRef) ∷
    (control.ReturnCallRef 0, one number control.ReturnCallRef) ∷
    (control.RefAsNonNull, bare control.RefAsNonNull) ∷
    (control.BrOnNull 0, one number control.BrOnNull) ∷
    (control.BrOnNonNull 0, one number control.BrOnNonNull) ∷ []

pub control_told : (o : ControlOperator) → Told control_info control_immediates (map kind_of) control_list o
control_told control.Unreachable = (refl, refl)
control_told control.Nop = (refl, refl)
control_told (control.Block blockty) = (refl, refl)
control_told (control.Loop blockty) = (refl, refl)
control_told (control.If blockty) = (refl, refl)
control_told control.Else = (refl, refl)
control_told control.End = (refl, refl)
control_told (control.Br relative_depth) = (refl, refl)
control_told (control.BrIf relative_depth) = (refl, refl)
control_told (control.BrTable targets) = (refl, refl)
control_told control.Return = (refl, refl)
control_told (control.Call function_index) = (refl, refl)
control_told (control.CallIndirect type_index table_index) = (refl, refl)
control_told (control.ReturnCall function_index) = (refl, refl)
control_told (control.ReturnCallIndirect type_index table_index) = (refl, refl)
control_told (control.CallRef type_index) = (refl, refl)
control_told (control.ReturnCallRef type_index) = (refl, refl)
control_told control.RefAsNonNull = (refl, refl)
control_told (control.BrOnNull relative_depth) = (refl, refl)
control_told (control.BrOnNonNull relative_depth) = (refl, refl)

pub control_made : (o : ControlOperator) → Made control_info control_immediates (map kind_of) control_list o
control_made control.Unreachable = refl
control_made control.Nop = refl
control_made (control.Block blockty) = refl
control_made (control.Loop blockty) = refl
control_made (control.If blockty) = refl
control_made control.Else = refl
control_made control.End = refl
control_made (control.Br relative_depth) = refl
control_made (control.BrIf relative_depth) = refl
control_made (control.BrTable targets) = refl
control_made control.Return = refl
control_made (control.Call function_index) = refl
control_made (control.CallIndirect type_index table_index) = refl
control_made (control.ReturnCall function_index) = refl
control_made (control.ReturnCallIndirect type_index table_index) = refl
control_made (control.CallRef type_index) = refl
control_made (control.ReturnCallRef type_index) = refl
control_made control.RefAsNonNull = refl
control_made (control.BrOnNull relative_depth) = refl
control_made (control.BrOnNonNull relative_depth) = refl

-- ---- parametric

abbrev pub select_of : List ValType → ParametricTree
select_of (ty ∷ []) = tree.TypedSelect ty
select_of tys = tree.TypedSelectMulti tys

abbrev pub parametric_list : List (ParametricTree × Maker ParametricTree)
parametric_list =
    (tree.Drop, bare tree.Drop) ∷
    (tree.Select, bare tree.Select) ∷
    (tree.TypedSelect I32, one types select_of) ∷ []

pub parametric_told : (o : ParametricTree) → Told parametric_info parametric_immediates (map kind_of) parametric_list o
parametric_told tree.Drop = (refl, refl)
parametric_told tree.Select = (refl, refl)
parametric_told (tree.TypedSelect ty) = (refl, refl)
parametric_told (tree.TypedSelectMulti tys) = (refl, refl)

pub parametric_made : (o : ParametricTree) → is_canonical o ≡ true → Made parametric_info parametric_immediates (map kind_of) parametric_list o
parametric_made tree.Drop h = refl
parametric_made tree.Select h = refl
parametric_made (tree.TypedSelect ty) h = refl
parametric_made (tree.TypedSelectMulti []) h = refl
parametric_made (tree.TypedSelectMulti (ty ∷ [])) h = absurd (true≢false (sym h))
parametric_made (tree.TypedSelectMulti (ty ∷ second ∷ tys)) h = refl

-- ---- exception

abbrev pub exception_list : List (ExceptionTree × Maker ExceptionTree)
exception_list =
    (tree.Try Empty, one block tree.Try) ∷
    (tree.Catch 0, one number tree.Catch) ∷
    (tree.Throw 0, one number tree.Throw) ∷
    (tree.Rethrow 0, one number tree.Rethrow) ∷
    (tree.ThrowRef, bare tree.ThrowRef) ∷
    (tree.Delegate 0, one number tree.Delegate) ∷
    (tree.CatchAll, bare tree.CatchAll) ∷
    (tree.TryTable some_clauses, one clauses tree.TryTable) ∷ []

pub exception_told : (o : ExceptionTree) → Told exception_info exception_immediates (map kind_of) exception_list o
exception_told (tree.Try blockty) = (refl, refl)
exception_told (tree.Catch tag_index) = (refl, refl)
exception_told (tree.Throw tag_index) = (refl, refl)
exception_told (tree.Rethrow relative_depth) = (refl, refl)
exception_told tree.ThrowRef = (refl, refl)
exception_told (tree.Delegate relative_depth) = (refl, refl)
exception_told tree.CatchAll = (refl, refl)
exception_told (tree.TryTable try_table) = (refl, refl)

pub exception_made : (o : ExceptionTree) → Made exception_info exception_immediates (map kind_of) exception_list o
exception_made (tree.Try blockty) = refl
exception_made (tree.Catch tag_index) = refl
exception_made (tree.Throw tag_index) = refl
exception_made (tree.Rethrow relative_depth) = refl
exception_made tree.ThrowRef = refl
exception_made (tree.Delegate relative_depth) = refl
exception_made tree.CatchAll = refl
exception_made (tree.TryTable try_table) = refl

-- ---- continuation

abbrev pub continuation_list : List (ContinuationTree × Maker ContinuationTree)
continuation_list =
    (tree.ContNew 0, one number tree.ContNew) ∷
    (tree.ContBind 0 0, two number number tree.ContBind) ∷
    (tree.Suspend 0, one number tree.Suspend) ∷
    (tree.Resume 0 [], two number handlers tree.Resume) ∷
    (tree.ResumeThrow 0 0 [], three number number handlers tree.ResumeThrow) ∷
    (tree.ResumeThrowRef 0 [], two number handlers tree.ResumeThrowRef) ∷
    (tree.Switch 0 0, two number number tree.Switch) ∷ []

pub continuation_told : (o : ContinuationTree) → Told continuation_info continuation_immediates (map kind_of) continuation_list o
continuation_told (tree.ContNew cont_type_index) = (refl, refl)
continuation_told (tree.ContBind argument_index result_index) = (refl, refl)
continuation_told (tree.Suspend tag_index) = (refl, refl)
continuation_told (tree.Resume cont_type_index resume_table) = (refl, refl)
continuation_told (tree.ResumeThrow cont_type_index tag_index resume_table) = (refl, refl)
continuation_told (tree.ResumeThrowRef cont_type_index resume_table) = (refl, refl)
continuation_told (tree.Switch cont_type_index tag_index) = (refl, refl)

pub continuation_made : (o : ContinuationTree) → Made continuation_info continuation_immediates (map kind_of) continuation_list o
continuation_made (tree.ContNew cont_type_index) = refl
continuation_made (tree.ContBind argument_index result_index) = refl
continuation_made (tree.Suspend tag_index) = refl
continuation_made (tree.Resume cont_type_index resume_table) = refl
continuation_made (tree.ResumeThrow cont_type_index tag_index resume_table) = refl
continuation_made (tree.ResumeThrowRef cont_type_index resume_table) = refl
continuation_made (tree.Switch cont_type_index tag_index) = refl
