-- The second part of an `if`.
use Rattle.std.proofs.Common.{◌≡◌, List, ◌++◌, Some, sym, subst}
use Rattle.wasm_operators_immediates.specs.declared.frames.FrameKind.{FrameKind}
use Rattle.wasm_operators_immediates.specs.declared.frames.FrameKind.TheVariants as frames
use Rattle.wasm_operators_enums.specs.declared.control.ControlOperator.TheVariants as control
use Rattle.wasm_operators_enums.specs.declared.role.Effect.TheVariants as effects
use Rattle.wasm_operators_enums.specs.Roles.{role_of, effect}
use Rattle.wasm_operators_enums.specs.Op as op
use Rattle.wasm_operators_encoding.specs.expressions.Code.{Code, close, plain, nested, turn, IsIn}
use Rattle.wasm_operator_validator_rules.specs.Operands.{ValueType, Operand, stack}
use Rattle.wasm_operator_validator_rules.specs.Context.{Context, Initialised, Signature}
use Rattle.wasm_operator_validator_rules.specs.Row.{after}
use Rattle.wasm_operator_validator_rules.specs.Typed.{Typed}
use Rattle.wasm_operator_validator_soundness.specs.Machine.{second_part}
use Rattle.wasm_operator_validator_soundness.proofs.Invariant.{none_is_some, frame_of}

turns_to_else : (j : FrameKind) → effect (role_of (op.Control control.Else)) frames.If ≡ Some (effects.Turns j) → frames.Else ≡ j
turns_to_else j e = cc

-- It is typed as the whole `if` is, from the parameters, with the locals that were initialised before.
module _ (g : Context) (b : Signature) (before : Initialised) where
  pub second_typed : (set : Initialised) (c : Code) (s : List Operand) → IsIn frames.If c → Typed g (frame_of frames.If b before) set c s
      → (j : FrameKind) × IsIn j (second_part c) × Typed g (frame_of j b before) before (second_part c) (stack b.params)
  second_typed set (close o) s i t = (frames.If, i, (t.1, t.1, t.2))
  second_typed set (plain o more) s i t = second_typed (after o set) more t.0 i.1 t.2
  second_typed set (nested o body more) s i t = second_typed set more (stack (t.1).results ++ t.2) i.3 t.6
  second_typed set (turn (op.Control control.Else) more) s i t =
      (frames.Else, subst (λ (j : FrameKind). IsIn j more) (sym (turns_to_else i.0 i.1)) i.2, subst (λ (ts : List ValueType). Typed g (frame_of frames.Else b before) before more (stack ts)) t.1 t.3)
  second_typed set (turn (op.Exception (op.Catch x)) more) s i t = absurd (none_is_some (effects.Turns i.0) i.1)
  second_typed set (turn (op.Exception op.CatchAll) more) s i t = absurd (none_is_some (effects.Turns i.0) i.1)
  second_typed set (turn o more) s i t = absurd t.1
