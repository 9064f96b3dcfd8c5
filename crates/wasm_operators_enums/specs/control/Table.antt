-- Operators of control, exceptions and continuations: their rows of the table of opcodes
-- (WebAssembly 3.0, binary format, instructions, and appendix, index of instructions, and the proposals).
use Rattle.std.specs.Prelude.{None, codes}
use Rattle.wasm_operators_immediates.specs.Info.{Info, row}
use Rattle.wasm_operators_immediates.specs.declared.proposal.Proposal.TheVariants.{Exceptions, FunctionReferences, LegacyExceptions, Mvp, ReferenceTypes, TailCall, StackSwitching}
use Rattle.wasm_operators_enums.specs.declared.control.ControlOperator.{ControlOperator}
use Rattle.wasm_operators_enums.specs.declared.control.ControlOperator.TheVariants as control
use Rattle.wasm_operators_enums.specs.control.Trees as tree
use Rattle.wasm_operators_enums.specs.control.Trees.{ParametricTree, ExceptionTree, ContinuationTree}

-- standard: binary-instr-control: opcodes
-- of operators of control
abbrev pub control_info : ControlOperator → Info
control_info control.Unreachable = row Mvp (codes "unreachable") None 0x00
control_info control.Nop = row Mvp (codes "nop") None 0x01
control_info (control.Block blockty) = row Mvp (codes "block") None 0x02
control_info (control.Loop blockty) = row Mvp (codes "loop") None 0x03
control_info (control.If blockty) = row Mvp (codes "if") None 0x04
control_info control.Else = row Mvp (codes "else") None 0x05
control_info control.End = row Mvp (codes "end") None 0x0b
control_info (control.Br relative_depth) = row Mvp (codes "br") None 0x0c
control_info (control.BrIf relative_depth) = row Mvp (codes "br_if") None 0x0d
control_info (control.BrTable targets) = row Mvp (codes "br_table") None 0x0e
control_info control.Return = row Mvp (codes "return") None 0x0f
control_info (control.Call function_index) = row Mvp (codes "call") None 0x10
control_info (control.CallIndirect type_index table_index) = row Mvp (codes "call_indirect") None 0x11
control_info (control.ReturnCall function_index) = row TailCall (codes "return_call") None 0x12
control_info (control.ReturnCallIndirect type_index table_index) = row TailCall (codes "return_call_indirect") None 0x13
control_info (control.CallRef type_index) = row FunctionReferences (codes "call_ref") None 0x14
control_info (control.ReturnCallRef type_index) = row TailCall (codes "return_call_ref") None 0x15
control_info control.RefAsNonNull = row FunctionReferences (codes "ref.as_non_null") None 0xd4
control_info (control.BrOnNull relative_depth) = row FunctionReferences (codes "br_on_null") None 0xd5
control_info (control.BrOnNonNull relative_depth) = row FunctionReferences (codes "br_on_non_null") None 0xd6

-- standard: binary-instr-parametric: opcodes
-- of those that take operands of any type
abbrev pub parametric_info : ParametricTree → Info
parametric_info tree.Drop = row Mvp (codes "drop") None 0x1a
parametric_info tree.Select = row Mvp (codes "select") None 0x1b
parametric_info (tree.TypedSelect ty) = row ReferenceTypes (codes "select") None 0x1c
parametric_info (tree.TypedSelectMulti tys) = row ReferenceTypes (codes "select") None 0x1c

-- standard: binary-instr-control: opcodes of exceptions (differs: the older form too, try and its clauses)
-- of exceptions
abbrev pub exception_info : ExceptionTree → Info
exception_info (tree.Try blockty) = row LegacyExceptions (codes "try") None 0x06
exception_info (tree.Catch tag_index) = row LegacyExceptions (codes "catch") None 0x07
exception_info (tree.Throw tag_index) = row Exceptions (codes "throw") None 0x08
exception_info (tree.Rethrow relative_depth) = row LegacyExceptions (codes "rethrow") None 0x09
exception_info tree.ThrowRef = row Exceptions (codes "throw_ref") None 0x0a
exception_info (tree.Delegate relative_depth) = row LegacyExceptions (codes "delegate") None 0x18
exception_info tree.CatchAll = row LegacyExceptions (codes "catch_all") None 0x19
exception_info (tree.TryTable try_table) = row Exceptions (codes "try_table") None 0x1f

-- standard: proposal-stack-switching: opcodes
-- of continuations (the proposal on stack switching)
abbrev pub continuation_info : ContinuationTree → Info
continuation_info (tree.ContNew cont_type_index) = row StackSwitching (codes "cont.new") None 0xe0
continuation_info (tree.ContBind argument_index result_index) = row StackSwitching (codes "cont.bind") None 0xe1
continuation_info (tree.Suspend tag_index) = row StackSwitching (codes "suspend") None 0xe2
continuation_info (tree.Resume cont_type_index resume_table) = row StackSwitching (codes "resume") None 0xe3
continuation_info (tree.ResumeThrow cont_type_index tag_index resume_table) = row StackSwitching (codes "resume_throw") None 0xe4
continuation_info (tree.ResumeThrowRef cont_type_index resume_table) = row StackSwitching (codes "resume_throw_ref") None 0xe5
continuation_info (tree.Switch cont_type_index tag_index) = row StackSwitching (codes "switch") None 0xe6
