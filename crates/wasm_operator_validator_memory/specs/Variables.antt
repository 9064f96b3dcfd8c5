-- Variables, and when memory is wanted.
use Rattle.std.specs.Prelude.{◌≡◌, Bool, false, List, Option, Some}
use Rattle.wasm_types.specs.decoding.declared.error.ErrorKind.{ErrorKind}
use Rattle.wasm_types.specs.decoding.declared.error.ErrorKind.TheVariants as kinds
use Rattle.wasm_operators_enums.specs.Op.{Op}
use Rattle.wasm_operator_validator_rules.specs.Operands.{Operand}
use Rattle.wasm_operator_validator_rules.specs.Context.{Global}
use Rattle.wasm_operator_validator_rules.specs.Row.{Row}
use Rattle.wasm_operator_validator_state.specs.resources.Meaning.{Meaning}
use Rattle.wasm_operator_validator_state.specs.State.{State, initialised, context}
use Rattle.wasm_operator_validator_state.specs.Steps.{IsOpen}

abbrev pub global_is_shared : Global → Bool
global_is_shared v = v.shared

-- nothing was refused before, a frame is open, and the rules have types for the operator here: it is wrong at most for its operands
pub record HasTypes (m : Meaning) (σ : State) (o : Op) : Type 0 where
  pub going : σ.failed ≡ false
  pub framed : IsOpen σ.opens
  pub popped : List Operand
  pub pushed : List Operand
  pub row : Row (context m σ.given σ.opens) (initialised m σ.given σ.inits) o popped pushed

-- memory is wanted only then
abbrev pub WantsRoom : Meaning → State → Op → Option ErrorKind → Type 0
WantsRoom m σ o answer = answer ≡ Some kinds.OutOfMemory → HasTypes m σ o
