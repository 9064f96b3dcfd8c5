-- Which operators may come next where a frame is the innermost that is open, worked by hand (WebAssembly 3.0, binary format,
-- instructions; the older exceptions by their proposal).
use Rattle.std.specs.Prelude.{◌≡◌, true, false, Some, None}
use Rattle.wasm_operators_immediates.specs.declared.frames.FrameKind.TheVariants.{Block, If, Else, Loop, TryTable, LegacyTry, LegacyCatch, LegacyCatchAll}
use Rattle.wasm_operators_enums.specs.declared.control.ControlOperator.TheVariants as control
use Rattle.wasm_operators_enums.specs.Op as op
use Rattle.wasm_operators_enums.specs.Roles.{fits}

pub record FrameRows : Type 0 where
  pub else_in_if : fits (op.Control control.Else) (Some If) ≡ true
  pub else_in_block : fits (op.Control control.Else) (Some Block) ≡ false
  pub else_in_else : fits (op.Control control.Else) (Some Else) ≡ false
  pub catch_in_try : fits (op.Exception (op.Catch 0)) (Some LegacyTry) ≡ true
  pub catch_in_catch : fits (op.Exception (op.Catch 0)) (Some LegacyCatch) ≡ true
  pub catch_in_catch_all : fits (op.Exception (op.Catch 0)) (Some LegacyCatchAll) ≡ false
  pub catch_in_try_table : fits (op.Exception (op.Catch 0)) (Some TryTable) ≡ false
  pub catch_all_in_catch : fits (op.Exception op.CatchAll) (Some LegacyCatch) ≡ true
  pub catch_all_in_catch_all : fits (op.Exception op.CatchAll) (Some LegacyCatchAll) ≡ false
  pub delegate_in_try : fits (op.Exception (op.Delegate 0)) (Some LegacyTry) ≡ true
  pub delegate_in_catch : fits (op.Exception (op.Delegate 0)) (Some LegacyCatch) ≡ false
  pub end_in_loop : fits (op.Control control.End) (Some Loop) ≡ true
  pub throw_in_block : fits (op.Exception (op.Throw 0)) (Some Block) ≡ true
  pub nothing_behind_the_last_end : fits (op.Control control.Nop) None ≡ false
