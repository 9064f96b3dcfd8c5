-- Operators of control, exceptions and continuations: each variant takes any immediates of its kinds.
use Rattle.std.proofs.Common.{◌≡◌, true, List, [], ◌∷◌, map, refl}
use Rattle.wasm_operators_immediates.specs.Immediates.{kind_of}
use Rattle.wasm_operators_enums.specs.control.Table.{control_info, exception_info, continuation_info, parametric_info}
use Rattle.wasm_operators_enums.specs.control.Immediates.{control_immediates, exception_immediates, continuation_immediates, parametric_immediates, is_canonical}
use Rattle.wasm_operators_enums.specs.declared.control.ControlOperator.{ControlOperator}
use Rattle.wasm_operators_enums.specs.declared.control.ControlOperator.TheVariants as control
use Rattle.wasm_operators_enums.specs.control.Trees as tree
use Rattle.wasm_operators_enums.specs.control.Trees.{ParametricTree, ExceptionTree, ContinuationTree}
use Rattle.wasm_types.specs.values.declared.value.ValType.{ValType}
use Rattle.wasm_operators_encoding.specs.codes.Carried.{Carriers}
use Rattle.wasm_operators_encoding.specs.codes.Filled.{IsMaker, Fills, fills}

-- ---- control

control_by : (o : ControlOperator) (f : Carriers (map kind_of (control_immediates o)) → ControlOperator)
    → IsMaker control_info control_immediates (λ o. true) o f → Fills control_info control_immediates (λ o. true) o
control_by o f m = fills control_info control_immediates (λ o. true) o f m

pub control_fills : (o : ControlOperator) → Fills control_info control_immediates (λ o. true) o
control_fills control.Unreachable = control_by control.Unreachable (λ c. control.Unreachable) (λ c. (refl, refl, refl, refl))
control_fills control.Nop = control_by control.Nop (λ c. control.Nop) (λ c. (refl, refl, refl, refl))
control_fills (control.Block blockty) = control_by (control.Block blockty) (λ c. control.Block c.0) (λ c. (refl, refl, refl, refl))
control_fills (control.Loop blockty) = control_by (control.Loop blockty) (λ c. control.Loop c.0) (λ c. (refl, refl, refl, refl))
control_fills (control.If blockty) = control_by (control.If blockty) (λ c. control.If c.0) (λ c. (refl, refl, refl, refl))
control_fills control.Else = control_by control.Else (λ c. control.Else) (λ c. (refl, refl, refl, refl))
control_fills control.End = control_by control.End (λ c. control.End) (λ c. (refl, refl, refl, refl))
control_fills (control.Br relative_depth) = control_by (control.Br relative_depth) (λ c. control.Br c.0) (λ c. (refl, refl, refl, refl))
control_fills (control.BrIf relative_depth) = control_by (control.BrIf relative_depth) (λ c. control.BrIf c.0) (λ c. (refl, refl, refl, refl))
control_fills (control.BrTable targets) = control_by (control.BrTable targets) (λ c. control.BrTable c.0) (λ c. (refl, refl, refl, refl))
control_fills control.Return = control_by control.Return (λ c. control.Return) (λ c. (refl, refl, refl, refl))
control_fills (control.Call function_index) = control_by (control.Call function_index) (λ c. control.Call c.0) (λ c. (refl, refl, refl, refl))
control_fills (control.CallIndirect type_index table_index) = control_by (control.CallIndirect type_index table_index) (λ c. control.CallIndirect c.0 c.1.0) (λ c. (refl, refl, refl, refl))
control_fills (control.ReturnCall function_index) = control_by (control.ReturnCall function_index) (λ c. control.ReturnCall c.0) (λ c. (refl, refl, refl, refl))
control_fills (control.ReturnCallIndirect a b) = control_by (control.ReturnCallIndirect a b) (λ c. control.ReturnCallIndirect c.0 c.1.0) (λ c. (refl, refl, refl, refl))
control_fills (control.CallRef type_index) = control_by (control.CallRef type_index) (λ c. control.CallRef c.0) (λ c. (refl, refl, refl, refl))
control_fills (control.ReturnCallRef type_index) = control_by (control.ReturnCallRef type_index) (λ c. control.ReturnCallRef c.0) (λ c. (refl, refl, refl, refl))
control_fills control.RefAsNonNull = control_by control.RefAsNonNull (λ c. control.RefAsNonNull) (λ c. (refl, refl, refl, refl))
control_fills (control.BrOnNull relative_depth) = control_by (control.BrOnNull relative_depth) (λ c. control.BrOnNull c.0) (λ c. (refl, refl, refl, refl))
control_fills (control.BrOnNonNull relative_depth) = control_by (control.BrOnNonNull relative_depth) (λ c. control.BrOnNonNull c.0) (λ c. (refl, refl, refl, refl))

-- ---- exception

exception_by : (o : ExceptionTree) (f : Carriers (map kind_of (exception_immediates o)) → ExceptionTree)
    → IsMaker exception_info exception_immediates (λ o. true) o f → Fills exception_info exception_immediates (λ o. true) o
exception_by o f m = fills exception_info exception_immediates (λ o. true) o f m

pub exception_fills : (o : ExceptionTree) → Fills exception_info exception_immediates (λ o. true) o
exception_fills (tree.Try blockty) = exception_by (tree.Try blockty) (λ c. tree.Try c.0) (λ c. (refl, refl, refl, refl))
exception_fills (tree.Catch tag_index) = exception_by (tree.Catch tag_index) (λ c. tree.Catch c.0) (λ c. (refl, refl, refl, refl))
exception_fills (tree.Throw tag_index) = exception_by (tree.Throw tag_index) (λ c. tree.Throw c.0) (λ c. (refl, refl, refl, refl))
exception_fills (tree.Rethrow relative_depth) = exception_by (tree.Rethrow relative_depth) (λ c. tree.Rethrow c.0) (λ c. (refl, refl, refl, refl))
exception_fills tree.ThrowRef = exception_by tree.ThrowRef (λ c. tree.ThrowRef) (λ c. (refl, refl, refl, refl))
exception_fills (tree.Delegate relative_depth) = exception_by (tree.Delegate relative_depth) (λ c. tree.Delegate c.0) (λ c. (refl, refl, refl, refl))
exception_fills tree.CatchAll = exception_by tree.CatchAll (λ c. tree.CatchAll) (λ c. (refl, refl, refl, refl))
exception_fills (tree.TryTable try_table) = exception_by (tree.TryTable try_table) (λ c. tree.TryTable c.0) (λ c. (refl, refl, refl, refl))

-- ---- continuation

continuation_by : (o : ContinuationTree) (f : Carriers (map kind_of (continuation_immediates o)) → ContinuationTree)
    → IsMaker continuation_info continuation_immediates (λ o. true) o f → Fills continuation_info continuation_immediates (λ o. true) o
continuation_by o f m = fills continuation_info continuation_immediates (λ o. true) o f m

pub continuation_fills : (o : ContinuationTree) → Fills continuation_info continuation_immediates (λ o. true) o
continuation_fills (tree.ContNew cont_type_index) = continuation_by (tree.ContNew cont_type_index) (λ c. tree.ContNew c.0) (λ c. (refl, refl, refl, refl))
continuation_fills (tree.ContBind argument_index result_index) = continuation_by (tree.ContBind argument_index result_index) (λ c. tree.ContBind c.0 c.1.0) (λ c. (refl, refl, refl, refl))
continuation_fills (tree.Suspend tag_index) = continuation_by (tree.Suspend tag_index) (λ c. tree.Suspend c.0) (λ c. (refl, refl, refl, refl))
continuation_fills (tree.Resume cont_type_index resume_table) = continuation_by (tree.Resume cont_type_index resume_table) (λ c. tree.Resume c.0 c.1.0) (λ c. (refl, refl, refl, refl))
continuation_fills (tree.ResumeThrow a b c) = continuation_by (tree.ResumeThrow a b c) (λ x. tree.ResumeThrow x.0 x.1.0 x.1.1.0) (λ x. (refl, refl, refl, refl))
continuation_fills (tree.ResumeThrowRef a b) = continuation_by (tree.ResumeThrowRef a b) (λ c. tree.ResumeThrowRef c.0 c.1.0) (λ c. (refl, refl, refl, refl))
continuation_fills (tree.Switch cont_type_index tag_index) = continuation_by (tree.Switch cont_type_index tag_index) (λ c. tree.Switch c.0 c.1.0) (λ c. (refl, refl, refl, refl))

-- ---- parametric

-- the form of `select` that these types have
abbrev select_of : List ValType → ParametricTree
select_of (ty ∷ []) = tree.TypedSelect ty
select_of tys = tree.TypedSelectMulti tys

abbrev IsSelect : List ValType → Type 0
IsSelect tys =
    let o = select_of tys in
    let multi = tree.TypedSelectMulti tys in
    (is_canonical o ≡ true) × ((parametric_info o).prefix ≡ (parametric_info multi).prefix) × ((parametric_info o).code ≡ (parametric_info multi).code)
    × (parametric_immediates o ≡ parametric_immediates multi)

selects : (tys : List ValType) → IsSelect tys
selects [] = (refl, refl, refl, refl)
selects (ty ∷ []) = (refl, refl, refl, refl)
selects (ty ∷ second ∷ tys) = (refl, refl, refl, refl)

parametric_by : (o : ParametricTree) (f : Carriers (map kind_of (parametric_immediates o)) → ParametricTree)
    → IsMaker parametric_info parametric_immediates is_canonical o f → Fills parametric_info parametric_immediates is_canonical o
parametric_by o f m = fills parametric_info parametric_immediates is_canonical o f m

pub parametric_fills : (o : ParametricTree) → Fills parametric_info parametric_immediates is_canonical o
parametric_fills tree.Drop = parametric_by tree.Drop (λ c. tree.Drop) (λ c. (refl, refl, refl, refl))
parametric_fills tree.Select = parametric_by tree.Select (λ c. tree.Select) (λ c. (refl, refl, refl, refl))
parametric_fills (tree.TypedSelect ty) = parametric_by (tree.TypedSelect ty) (λ c. select_of c.0) (λ c. selects c.0)
parametric_fills (tree.TypedSelectMulti tys) = parametric_by (tree.TypedSelectMulti tys) (λ c. select_of c.0) (λ c. selects c.0)
