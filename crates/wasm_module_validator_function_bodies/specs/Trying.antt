-- An operator that is tried: it is done, or it leaves no trace.
use Rattle.std.specs.Prelude.{◌≡◌, true, Option, Some, is_some}
use Rattle.wasm_types.specs.decoding.declared.error.ErrorKind.{ErrorKind}
use Rattle.wasm_types.specs.decoding.declared.error.ErrorKind.TheVariants as kinds
use Rattle.wasm_operators_enums.specs.Op.{Op}
use Rattle.wasm_operator_validator_arity.specs.resources.Meaning.{Meaning}
use Rattle.wasm_operator_validator_state.specs.State.{State, Decides}
use Rattle.wasm_operator_validator_stacks.specs.Layout.{none_saved}

-- the same, outside an attempt
abbrev pub settled : State → State
settled σ = record σ { saved = none_saved }

-- What a try promises: it decides the operator; where an operator was refused before it is refused for that; where it is refused all
-- stands as it stood. What never changes stays, and whether an operator had been refused; no attempt is under way behind it.
pub record Tries (m : Meaning) (σ : State) (o : Op) (answer : Option ErrorKind) (τ : State) : Type 0 where
  pub decides : Decides m σ o answer τ
  pub stopped : σ.failed ≡ true → answer ≡ Some kinds.Failed
  pub untouched : is_some answer ≡ true → τ ≡ settled σ
  pub given : τ.given ≡ σ.given
  pub failed : τ.failed ≡ σ.failed
  pub saved : τ.saved ≡ none_saved
