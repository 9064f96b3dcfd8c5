-- What a clone of an operator keeps: its variant and all that it carries.
use Rattle.std.proofs.Common.{◌≡◌, refl, ap}
use Rattle.std.specs.List.{each_same}
use Rattle.wasm_operators_immediates.specs.declared.handlers.TryTable.{TryTable}
use Rattle.wasm_operators_immediates.specs.declared.handlers.ResumeTable.{ResumeTable}
use Rattle.wasm_operators_immediates.specs.contracts.handlers.TryTableClone.TheImpl as try_table
use Rattle.wasm_operators_immediates.specs.contracts.handlers.ResumeTableClone.TheImpl as resume_table
use Rattle.wasm_operators_immediates.specs.Tables.{catch_table_of}
use Rattle.wasm_operators_enums.specs.declared.control.ControlOperator.{ControlOperator}
use Rattle.wasm_operators_enums.specs.declared.control.ControlOperator.TheVariants as control
use Rattle.wasm_operators_enums.specs.declared.control.ParametricOperator.{ParametricOperator}
use Rattle.wasm_operators_enums.specs.declared.control.ParametricOperator.TheVariants as parametric
use Rattle.wasm_operators_enums.specs.declared.exceptions.ExceptionOperator.{ExceptionOperator}
use Rattle.wasm_operators_enums.specs.declared.exceptions.ExceptionOperator.TheVariants as exception
use Rattle.wasm_operators_enums.specs.contracts.control.ControlOperatorClone.TheImpl as control_clone
use Rattle.wasm_operators_enums.specs.contracts.control.ParametricOperatorClone.TheImpl as parametric_clone
use Rattle.wasm_operators_enums.specs.contracts.exceptions.ExceptionOperatorClone.TheImpl as exception_clone
use Rattle.wasm_operators_enums.specs.declared.continuation.ContinuationOperator.{ContinuationOperator}
use Rattle.wasm_operators_enums.specs.declared.continuation.ContinuationOperator.TheVariants as continuation
use Rattle.wasm_operators_enums.specs.contracts.continuation.ContinuationOperatorClone.TheImpl as continuation_clone
use Rattle.wasm_operators_enums.specs.declared.operator.Operator.{Operator}
use Rattle.wasm_operators_enums.specs.declared.operator.Operator.TheVariants as operator
use Rattle.wasm_operators_enums.specs.contracts.operator.OperatorClone.TheImpl as clone
use Rattle.wasm_operators_enums.specs.Op as op
use Rattle.wasm_operators_enums.specs.Op.{parametric_of, exception_of, continuation_of, op_of}

table_copied : (s t : TryTable) → try_table.ghosts.is_clone s t → catch_table_of t ≡ catch_table_of s
table_copied s t h =
    let a : t.ty ≡ s.ty = h.0 in
    let b : t.catches.items ≡ s.catches.items = each_same s.catches.items t.catches.items h.1.0 in
    λ i. record { ty = a i; catches = b i }

handlers_copied : (s t : ResumeTable) → resume_table.ghosts.is_clone s t → t.handlers.items ≡ s.handlers.items
handlers_copied s t h = each_same s.handlers.items t.handlers.items h.0

control_copied : (x y : ControlOperator) → control_clone.ghosts.is_clone x y → y ≡ x
control_copied control.Unreachable control.Unreachable h = refl
control_copied control.Nop control.Nop h = refl
control_copied (control.Block a0) (control.Block b0) h = let e0 : b0 ≡ a0 = h in λ i. control.Block (e0 i)
control_copied (control.Loop a0) (control.Loop b0) h = let e0 : b0 ≡ a0 = h in λ i. control.Loop (e0 i)
control_copied (control.If a0) (control.If b0) h = let e0 : b0 ≡ a0 = h in λ i. control.If (e0 i)
control_copied control.Else control.Else h = refl
control_copied control.End control.End h = refl
control_copied (control.Br a0) (control.Br b0) h = let e0 : b0 ≡ a0 = h in λ i. control.Br (e0 i)
control_copied (control.BrIf a0) (control.BrIf b0) h = let e0 : b0 ≡ a0 = h in λ i. control.BrIf (e0 i)
control_copied (control.BrTable a0) (control.BrTable b0) h = let e0 : b0 ≡ a0 = h in λ i. control.BrTable (e0 i)
control_copied control.Return control.Return h = refl
control_copied (control.Call a0) (control.Call b0) h = let e0 : b0 ≡ a0 = h in λ i. control.Call (e0 i)
control_copied (control.CallIndirect a0 a1) (control.CallIndirect b0 b1) h = let e0 : b0 ≡ a0 = h.0 in let e1 : b1 ≡ a1 = h.1 in λ i. control.CallIndirect (e0 i) (e1 i)
control_copied (control.ReturnCall a0) (control.ReturnCall b0) h = let e0 : b0 ≡ a0 = h in λ i. control.ReturnCall (e0 i)
control_copied (control.ReturnCallIndirect a0 a1) (control.ReturnCallIndirect b0 b1) h = let e0 : b0 ≡ a0 = h.0 in let e1 : b1 ≡ a1 = h.1 in λ i.
    control.ReturnCallIndirect (e0 i) (e1 i)
control_copied (control.CallRef a0) (control.CallRef b0) h = let e0 : b0 ≡ a0 = h in λ i. control.CallRef (e0 i)
control_copied (control.ReturnCallRef a0) (control.ReturnCallRef b0) h = let e0 : b0 ≡ a0 = h in λ i. control.ReturnCallRef (e0 i)
control_copied control.RefAsNonNull control.RefAsNonNull h = refl
control_copied (control.BrOnNull a0) (control.BrOnNull b0) h = let e0 : b0 ≡ a0 = h in λ i. control.BrOnNull (e0 i)
control_copied (control.BrOnNonNull a0) (control.BrOnNonNull b0) h = let e0 : b0 ≡ a0 = h in λ i. control.BrOnNonNull (e0 i)
control_copied x y h = absurd h

parametric_copied : (x y : ParametricOperator) → parametric_clone.ghosts.is_clone x y → parametric_of y ≡ parametric_of x
parametric_copied parametric.Drop parametric.Drop h = refl
parametric_copied parametric.Select parametric.Select h = refl
parametric_copied (parametric.TypedSelect a0) (parametric.TypedSelect b0) h = let e0 : b0 ≡ a0 = h in λ i. op.TypedSelect (e0 i)
parametric_copied (parametric.TypedSelectMulti a0) (parametric.TypedSelectMulti b0) h = let e0 : b0.items ≡ a0.items = each_same a0.items b0.items h.0
    in λ i. op.TypedSelectMulti (e0 i)
parametric_copied x y h = absurd h

exception_copied : (x y : ExceptionOperator) → exception_clone.ghosts.is_clone x y → exception_of y ≡ exception_of x
exception_copied (exception.Try a0) (exception.Try b0) h = let e0 : b0 ≡ a0 = h in λ i. op.Try (e0 i)
exception_copied (exception.Catch a0) (exception.Catch b0) h = let e0 : b0 ≡ a0 = h in λ i. op.Catch (e0 i)
exception_copied (exception.Throw a0) (exception.Throw b0) h = let e0 : b0 ≡ a0 = h in λ i. op.Throw (e0 i)
exception_copied (exception.Rethrow a0) (exception.Rethrow b0) h = let e0 : b0 ≡ a0 = h in λ i. op.Rethrow (e0 i)
exception_copied exception.ThrowRef exception.ThrowRef h = refl
exception_copied (exception.Delegate a0) (exception.Delegate b0) h = let e0 : b0 ≡ a0 = h in λ i. op.Delegate (e0 i)
exception_copied exception.CatchAll exception.CatchAll h = refl
exception_copied (exception.TryTable a0) (exception.TryTable b0) h = let e0 = table_copied a0 b0 h in λ i. op.TryTable (e0 i)
exception_copied x y h = absurd h

continuation_copied : (x y : ContinuationOperator) → continuation_clone.ghosts.is_clone x y → continuation_of y ≡ continuation_of x
continuation_copied (continuation.ContNew a0) (continuation.ContNew b0) h = let e0 : b0 ≡ a0 = h in λ i. op.ContNew (e0 i)
continuation_copied (continuation.ContBind a0 a1) (continuation.ContBind b0 b1) h = let e0 : b0 ≡ a0 = h.0 in let e1 : b1 ≡ a1 = h.1 in λ i. op.ContBind (e0 i) (e1 i)
continuation_copied (continuation.Suspend a0) (continuation.Suspend b0) h = let e0 : b0 ≡ a0 = h in λ i. op.Suspend (e0 i)
continuation_copied (continuation.Resume a0 a1) (continuation.Resume b0 b1) h = let e0 : b0 ≡ a0 = h.0 in let e1 = handlers_copied a1 b1 h.1 in λ i. op.Resume (e0 i) (e1 i)
continuation_copied (continuation.ResumeThrow a0 a1 a2) (continuation.ResumeThrow b0 b1 b2) h = let e0 : b0 ≡ a0 = h.0 in let e1 : b1 ≡ a1 = h.1.0 in
    let e2 = handlers_copied a2 b2 h.1.1 in λ i. op.ResumeThrow (e0 i) (e1 i) (e2 i)
continuation_copied (continuation.ResumeThrowRef a0 a1) (continuation.ResumeThrowRef b0 b1) h = let e0 : b0 ≡ a0 = h.0 in let e1 = handlers_copied a1
    b1 h.1 in λ i. op.ResumeThrowRef (e0 i) (e1 i)
continuation_copied (continuation.Switch a0 a1) (continuation.Switch b0 b1) h = let e0 : b0 ≡ a0 = h.0 in let e1 : b1 ≡ a1 = h.1 in λ i. op.Switch (e0 i) (e1 i)
continuation_copied x y h = absurd h

pub copied : (x y : Operator) → clone.ghosts.is_clone x y → op_of y ≡ op_of x
copied (operator.Control a) (operator.Control b) h = ap op.Control (control_copied a b h)
copied (operator.Parametric a) (operator.Parametric b) h = ap op.Parametric (parametric_copied a b h)
copied (operator.Exception a) (operator.Exception b) h = ap op.Exception (exception_copied a b h)
copied (operator.Continuation a) (operator.Continuation b) h = ap op.Continuation (continuation_copied a b h)
copied (operator.Memory a) (operator.Memory b) h = let e : b ≡ a = h in ap op.Memory e
copied (operator.Const a) (operator.Const b) h = let e : b ≡ a = h in ap op.Const e
copied (operator.Numeric a) (operator.Numeric b) h = let e : b ≡ a = h in ap op.Numeric e
copied (operator.Bulk a) (operator.Bulk b) h = let e : b ≡ a = h in ap op.Bulk e
copied (operator.Gc a) (operator.Gc b) h = let e : b ≡ a = h in ap op.Gc e
copied (operator.Descriptor a) (operator.Descriptor b) h = let e : b ≡ a = h in ap op.Descriptor e
copied (operator.Simd a) (operator.Simd b) h = let e : b ≡ a = h in ap op.Simd e
copied (operator.SimdNumeric a) (operator.SimdNumeric b) h = let e : b ≡ a = h in ap op.SimdNumeric e
copied (operator.Atomic a) (operator.Atomic b) h = let e : b ≡ a = h in ap op.Atomic e
copied (operator.Shared a) (operator.Shared b) h = let e : b ≡ a = h in ap op.Shared e
copied x y h = absurd h
