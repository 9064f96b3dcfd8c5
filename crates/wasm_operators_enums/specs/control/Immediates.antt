-- Operators of control, exceptions and continuations: what each carries behind its opcode,
-- in the order of the bytes (WebAssembly 3.0, binary format, instructions, and the proposals).
use Rattle.std.specs.Prelude.{Bool, true, false, List, [], ◌∷◌}
use Rattle.wasm_operators_immediates.specs.Kinds.{Functions, Tables, Tags, Types}
use Rattle.wasm_operators_immediates.specs.Immediates.{Immediate, Block, BranchTable, Index, IndexOrZero, Label, TryTable, ValueTypes, Handlers}
use Rattle.wasm_operators_enums.specs.declared.control.ControlOperator.{ControlOperator}
use Rattle.wasm_operators_enums.specs.declared.control.ControlOperator.TheVariants as control
use Rattle.wasm_operators_enums.specs.control.Trees as tree
use Rattle.wasm_operators_enums.specs.control.Trees.{ParametricTree, ExceptionTree, ContinuationTree}

-- standard: binary-instr-control: what follows each opcode
-- of operators of control
abbrev pub control_immediates : ControlOperator → List Immediate
control_immediates control.Unreachable = []
control_immediates control.Nop = []
control_immediates (control.Block blockty) = Block blockty ∷ []
control_immediates (control.Loop blockty) = Block blockty ∷ []
control_immediates (control.If blockty) = Block blockty ∷ []
control_immediates control.Else = []
control_immediates control.End = []
control_immediates (control.Br relative_depth) = Label relative_depth ∷ []
control_immediates (control.BrIf relative_depth) = Label relative_depth ∷ []
control_immediates (control.BrTable targets) = BranchTable targets ∷ []
control_immediates control.Return = []
control_immediates (control.Call function_index) = Index Functions function_index ∷ []
control_immediates (control.CallIndirect type_index table_index) = Index Types type_index ∷ IndexOrZero Tables table_index ∷ []
control_immediates (control.ReturnCall function_index) = Index Functions function_index ∷ []
control_immediates (control.ReturnCallIndirect type_index table_index) = Index Types type_index ∷ Index Tables table_index ∷ []
control_immediates (control.CallRef type_index) = Index Types type_index ∷ []
control_immediates (control.ReturnCallRef type_index) = Index Types type_index ∷ []
control_immediates control.RefAsNonNull = []
control_immediates (control.BrOnNull relative_depth) = Label relative_depth ∷ []
control_immediates (control.BrOnNonNull relative_depth) = Label relative_depth ∷ []

-- standard: binary-instr-parametric: what follows each opcode
-- of those that take operands of any type: `select` alone may name types
abbrev pub parametric_immediates : ParametricTree → List Immediate
parametric_immediates tree.Drop = []
parametric_immediates tree.Select = []
parametric_immediates (tree.TypedSelect ty) = ValueTypes (ty ∷ []) ∷ []
parametric_immediates (tree.TypedSelectMulti tys) = ValueTypes tys ∷ []

-- standard: part of is_canonical
-- `select` with one type is TypedSelect, and with any other number of types TypedSelectMulti: both have the same code
abbrev pub is_canonical : ParametricTree → Bool
is_canonical (tree.TypedSelectMulti (ty ∷ [])) = false
is_canonical o = true

-- standard: binary-instr-control: what follows each opcode of exceptions
-- of exceptions
abbrev pub exception_immediates : ExceptionTree → List Immediate
exception_immediates (tree.Try blockty) = Block blockty ∷ []
exception_immediates (tree.Catch tag_index) = Index Tags tag_index ∷ []
exception_immediates (tree.Throw tag_index) = Index Tags tag_index ∷ []
exception_immediates (tree.Rethrow relative_depth) = Label relative_depth ∷ []
exception_immediates tree.ThrowRef = []
exception_immediates (tree.Delegate relative_depth) = Label relative_depth ∷ []
exception_immediates tree.CatchAll = []
exception_immediates (tree.TryTable try_table) = TryTable try_table ∷ []

-- standard: proposal-stack-switching: what follows each opcode
-- of continuations (the proposal on stack switching)
abbrev pub continuation_immediates : ContinuationTree → List Immediate
continuation_immediates (tree.ContNew cont_type_index) = Index Types cont_type_index ∷ []
continuation_immediates (tree.ContBind argument_index result_index) = Index Types argument_index ∷ Index Types result_index ∷ []
continuation_immediates (tree.Suspend tag_index) = Index Tags tag_index ∷ []
continuation_immediates (tree.Resume cont_type_index resume_table) = Index Types cont_type_index ∷ Handlers resume_table ∷ []
continuation_immediates (tree.ResumeThrow cont_type_index tag_index resume_table) = Index Types cont_type_index ∷ Index Tags tag_index ∷ Handlers resume_table ∷ []
continuation_immediates (tree.ResumeThrowRef cont_type_index resume_table) = Index Types cont_type_index ∷ Handlers resume_table ∷ []
continuation_immediates (tree.Switch cont_type_index tag_index) = Index Types cont_type_index ∷ Index Tags tag_index ∷ []
