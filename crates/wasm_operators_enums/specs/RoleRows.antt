-- What operators do to frames, worked.
use Rattle.std.specs.Prelude.{◌≡◌, true, false, Some, None}
use Rattle.wasm_operators_immediates.specs.declared.block.BlockType.{BlockType}
use Rattle.wasm_operators_immediates.specs.declared.frames.FrameKind.TheVariants as frames
use Rattle.wasm_operators_enums.specs.declared.control.ControlOperator.TheVariants as control
use Rattle.wasm_operators_enums.specs.declared.role.Effect.TheVariants as effects
use Rattle.wasm_operators_enums.specs.Op as op
use Rattle.wasm_operators_enums.specs.Op.{Op}
use Rattle.wasm_operators_enums.specs.Roles.{role_of, effect, fits}

-- which operators may stand in which frame
abbrev pub FitsAsWorked : Type 0
FitsAsWorked = (fits (op.Control control.Else) (Some frames.If) ≡ true)
    × (fits (op.Control control.Else) (Some frames.Else) ≡ false)
    × (fits (op.Control control.Else) (Some frames.Block) ≡ false)
    × (fits (op.Exception (op.Catch 0)) (Some frames.LegacyTry) ≡ true)
    × (fits (op.Exception (op.Catch 0)) (Some frames.LegacyCatchAll) ≡ false)
    × (fits (op.Exception op.CatchAll) (Some frames.LegacyCatch) ≡ true)
    × (fits (op.Exception op.CatchAll) (Some frames.TryTable) ≡ false)
    × (fits (op.Exception (op.Delegate 0)) (Some frames.LegacyTry) ≡ true)
    × (fits (op.Exception (op.Delegate 0)) (Some frames.LegacyCatch) ≡ false)
    × (fits (op.Control control.End) (Some frames.Loop) ≡ true)
    × (fits (op.Control control.End) None ≡ false)

-- what they make of it
abbrev pub EffectsAsWorked : Type 0
EffectsAsWorked = ((ty : BlockType) → effect (role_of (op.Control (control.Loop ty))) frames.If ≡ Some (effects.Nests frames.Loop))
    × ((ty : BlockType) → effect (role_of (op.Exception (op.Try ty))) frames.Block ≡ Some (effects.Nests frames.LegacyTry))
    × (effect (role_of (op.Control control.Else)) frames.If ≡ Some (effects.Turns frames.Else))
    × (effect (role_of (op.Exception (op.Catch 0))) frames.LegacyTry ≡ Some (effects.Turns frames.LegacyCatch))
    × (effect (role_of (op.Exception op.CatchAll)) frames.LegacyCatch ≡ Some (effects.Turns frames.LegacyCatchAll))
    × (effect (role_of (op.Exception (op.Delegate 0))) frames.LegacyTry ≡ Some effects.Closes)
    × (effect (role_of (op.Control control.End)) frames.LegacyCatchAll ≡ Some effects.Closes)
    × (effect (role_of (op.Control control.Nop)) frames.Else ≡ Some effects.Stays)
