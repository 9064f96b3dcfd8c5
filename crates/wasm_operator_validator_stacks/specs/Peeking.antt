-- What lies under others in the innermost frame.
use Rattle.std.specs.Prelude.{ℕ, Bool, true, false, List, [], ◌∷◌, Option, Some, None, slice_get}
use Rattle.wasm_operator_validator_state.specs.declared.operand.MaybeType.{MaybeType}
use Rattle.wasm_operator_validator_state.specs.declared.operand.MaybeType.TheVariants as maybe
use Rattle.wasm_operator_validator_state.specs.State.{Open}

-- below the operands of unreachable code lies anything
abbrev pub or_any : Bool → Option MaybeType → Option MaybeType
or_any u (Some a) = Some a
or_any true None = Some maybe.Bottom
or_any false None = None

-- what is known of the operand of the innermost frame that lies under so many others
abbrev pub operand_at : List Open → ℕ → Option MaybeType
operand_at [] n = None
operand_at (o ∷ outer) n = or_any o.unreachable (slice_get o.operands n)
