-- The role of an operator in the nesting of instructions, and what it does to the frame in which it stands (WebAssembly 3.0,
-- structure, control instructions, and binary format, instructions: `else` behind `if`, and `end`; the older `try` with its clauses
-- by the proposal on exceptions).
use Rattle.std.specs.Prelude.{Bool, false, is_some, Option, Some, None}
use Rattle.wasm_operators_immediates.specs.declared.frames.FrameKind.{FrameKind}
use Rattle.wasm_operators_immediates.specs.declared.frames.FrameKind.TheVariants as frames
use Rattle.wasm_operators_enums.specs.declared.control.ControlOperator.{ControlOperator}
use Rattle.wasm_operators_enums.specs.declared.control.ControlOperator.TheVariants as control
use Rattle.wasm_operators_enums.specs.Op as op
use Rattle.wasm_operators_enums.specs.Op.{Op, ExceptionTree}
use Rattle.wasm_operators_enums.specs.declared.role.Role.{Role}
use Rattle.wasm_operators_enums.specs.declared.role.Role.TheVariants.{Plain, Opens, Else, Catch, CatchAll, Delegate, End}
use Rattle.wasm_operators_enums.specs.declared.role.Effect.{Effect}
use Rattle.wasm_operators_enums.specs.declared.role.Effect.TheVariants as effects

-- standard: part of role_of
-- the openers of blocks, `else` and `end` have a role of their own
abbrev pub control_role : ControlOperator → Role
control_role (control.Block blockty) = Opens frames.Block
control_role (control.Loop blockty) = Opens frames.Loop
control_role (control.If blockty) = Opens frames.If
control_role control.Else = Else
control_role control.End = End
control_role o = Plain

-- standard: part of role_of
-- the two forms of `try`, and the clauses of the older one
abbrev pub exception_role : ExceptionTree → Role
exception_role (op.Try blockty) = Opens frames.LegacyTry
exception_role (op.TryTable try_table) = Opens frames.TryTable
exception_role (op.Catch tag_index) = Catch
exception_role op.CatchAll = CatchAll
exception_role (op.Delegate relative_depth) = Delegate
exception_role o = Plain

-- standard: binary-instr-control: which instructions open, divide and close a block
-- no other operator opens, turns or closes a frame
abbrev pub role_of : Op → Role
role_of (op.Control o) = control_role o
role_of (op.Exception o) = exception_role o
role_of o = Plain

-- the clause of an older `try` that a frame becomes: one may follow `try`, or the clause of a tag
abbrev pub clause : FrameKind → FrameKind → Option Effect
clause j frames.LegacyTry = Some (effects.Turns j)
clause j frames.LegacyCatch = Some (effects.Turns j)
clause j k = None

-- standard: binary-instr-control: else in an if alone, and end (differs: the older try too)
-- What an operator does to the innermost frame, if it may stand there: `end` closes any frame, `else` begins the second part of
-- an `if`, and `delegate` ends an older `try` without clauses.
abbrev pub effect : Role → FrameKind → Option Effect
effect Plain k = Some effects.Stays
effect (Opens j) k = Some (effects.Nests j)
effect End k = Some effects.Closes
effect Else frames.If = Some (effects.Turns frames.Else)
effect Catch k = clause frames.LegacyCatch k
effect CatchAll k = clause frames.LegacyCatchAll k
effect Delegate frames.LegacyTry = Some effects.Closes
effect r k = None

-- the structural order: with no frame open nothing may follow
abbrev pub fits : Op → Option FrameKind → Bool
fits o None = false
fits o (Some k) = is_some (effect (role_of o) k)
