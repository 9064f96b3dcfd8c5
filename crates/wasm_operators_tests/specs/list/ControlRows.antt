-- Operators of control, exceptions and continuations, as the list has them (written by docs/operators/make_list_rows.py).
use Rattle.std.specs.Prelude.{List, [], ◌∷◌, codes, None}
use Rattle.wasm_operators_immediates.specs.declared.proposal.Proposal.TheVariants as proposal
use Rattle.wasm_operators_immediates.specs.Kinds.{Index, IndexOrZero, Label, Block, BranchTable, ValueTypes, TryTable, Handlers, Types, Functions, Tables, Tags}
use Rattle.wasm_operators_enums.specs.declared.control.ControlOperator.TheVariants as control
use Rattle.wasm_operators_enums.specs.Op as op
use Rattle.wasm_operators_tests.specs.list.Listed.{Carried, Listed, listed}

abbrev pub control_rows : Carried → List Listed
control_rows c =
    listed (op.Control control.Unreachable) proposal.Mvp (codes "unreachable") None 0x00 [] ∷
    listed (op.Control control.Nop) proposal.Mvp (codes "nop") None 0x01 [] ∷
    listed (op.Control (control.Block c.block)) proposal.Mvp (codes "block") None 0x02 (Block ∷ []) ∷
    listed (op.Control (control.Loop c.block)) proposal.Mvp (codes "loop") None 0x03 (Block ∷ []) ∷
    listed (op.Control (control.If c.block)) proposal.Mvp (codes "if") None 0x04 (Block ∷ []) ∷
    listed (op.Control control.Else) proposal.Mvp (codes "else") None 0x05 [] ∷
    listed (op.Control control.End) proposal.Mvp (codes "end") None 0x0b [] ∷
    listed (op.Control (control.Br c.number)) proposal.Mvp (codes "br") None 0x0c (Label ∷ []) ∷
    listed (op.Control (control.BrIf c.number)) proposal.Mvp (codes "br_if") None 0x0d (Label ∷ []) ∷
    listed (op.Control (control.BrTable c.labels)) proposal.Mvp (codes "br_table") None 0x0e (BranchTable ∷ []) ∷
    listed (op.Control control.Return) proposal.Mvp (codes "return") None 0x0f [] ∷
    listed (op.Control (control.Call c.number)) proposal.Mvp (codes "call") None 0x10 (Index Functions ∷ []) ∷
    listed (op.Control (control.CallIndirect c.number c.number)) proposal.Mvp (codes "call_indirect") None 0x11 (Index Types ∷ IndexOrZero Tables ∷ []) ∷
    listed (op.Control (control.ReturnCall c.number)) proposal.TailCall (codes "return_call") None 0x12 (Index Functions ∷ []) ∷
    listed (op.Control (control.ReturnCallIndirect c.number c.number)) proposal.TailCall (codes "return_call_indirect") None 0x13 (Index Types ∷ Index Tables ∷ []) ∷
    listed (op.Control (control.CallRef c.number)) proposal.FunctionReferences (codes "call_ref") None 0x14 (Index Types ∷ []) ∷
    listed (op.Control (control.ReturnCallRef c.number)) proposal.TailCall (codes "return_call_ref") None 0x15 (Index Types ∷ []) ∷
    listed (op.Control control.RefAsNonNull) proposal.FunctionReferences (codes "ref.as_non_null") None 0xd4 [] ∷
    listed (op.Control (control.BrOnNull c.number)) proposal.FunctionReferences (codes "br_on_null") None 0xd5 (Label ∷ []) ∷
    listed (op.Control (control.BrOnNonNull c.number)) proposal.FunctionReferences (codes "br_on_non_null") None 0xd6 (Label ∷ []) ∷ []

abbrev pub parametric_rows : Carried → List Listed
parametric_rows c =
    listed (op.Parametric op.Drop) proposal.Mvp (codes "drop") None 0x1a [] ∷
    listed (op.Parametric op.Select) proposal.Mvp (codes "select") None 0x1b [] ∷
    listed (op.Parametric (op.TypedSelect c.value)) proposal.ReferenceTypes (codes "select") None 0x1c (ValueTypes ∷ []) ∷
    listed (op.Parametric (op.TypedSelectMulti c.values)) proposal.ReferenceTypes (codes "select") None 0x1c (ValueTypes ∷ []) ∷ []

abbrev pub exception_rows : Carried → List Listed
exception_rows c =
    listed (op.Exception (op.Try c.block)) proposal.LegacyExceptions (codes "try") None 0x06 (Block ∷ []) ∷
    listed (op.Exception (op.Catch c.number)) proposal.LegacyExceptions (codes "catch") None 0x07 (Index Tags ∷ []) ∷
    listed (op.Exception (op.Throw c.number)) proposal.Exceptions (codes "throw") None 0x08 (Index Tags ∷ []) ∷
    listed (op.Exception (op.Rethrow c.number)) proposal.LegacyExceptions (codes "rethrow") None 0x09 (Label ∷ []) ∷
    listed (op.Exception op.ThrowRef) proposal.Exceptions (codes "throw_ref") None 0x0a [] ∷
    listed (op.Exception (op.Delegate c.number)) proposal.LegacyExceptions (codes "delegate") None 0x18 (Label ∷ []) ∷
    listed (op.Exception op.CatchAll) proposal.LegacyExceptions (codes "catch_all") None 0x19 [] ∷
    listed (op.Exception (op.TryTable c.clauses)) proposal.Exceptions (codes "try_table") None 0x1f (TryTable ∷ []) ∷ []

abbrev pub continuation_rows : Carried → List Listed
continuation_rows c =
    listed (op.Continuation (op.ContNew c.number)) proposal.StackSwitching (codes "cont.new") None 0xe0 (Index Types ∷ []) ∷
    listed (op.Continuation (op.ContBind c.number c.number)) proposal.StackSwitching (codes "cont.bind") None 0xe1 (Index Types ∷ Index Types ∷ []) ∷
    listed (op.Continuation (op.Suspend c.number)) proposal.StackSwitching (codes "suspend") None 0xe2 (Index Tags ∷ []) ∷
    listed (op.Continuation (op.Resume c.number c.handlers)) proposal.StackSwitching (codes "resume") None 0xe3 (Index Types ∷ Handlers ∷ []) ∷
    listed (op.Continuation (op.ResumeThrow c.number c.number c.handlers)) proposal.StackSwitching (codes "resume_throw") None 0xe4 (Index Types ∷ Index Tags ∷ Handlers ∷ []) ∷
    listed (op.Continuation (op.ResumeThrowRef c.number c.handlers)) proposal.StackSwitching (codes "resume_throw_ref") None 0xe5 (Index Types ∷ Handlers ∷ []) ∷
    listed (op.Continuation (op.Switch c.number c.number)) proposal.StackSwitching (codes "switch") None 0xe6 (Index Types ∷ Index Tags ∷ []) ∷ []
