use Rattle.wasm_operator_validator_soundness.proofs.Showing.{shown_operands_are_a_typing}
use Rattle.wasm_operator_validator_soundness.proofs.ShownPlaces.{places_are_shown}
use Rattle.wasm_operator_validator_soundness.proofs.shown.shown_operands_are_a_typing.Goals as goal

pub returns-clause-typing : goal.returns-clause-typing
returns-clause-typing c = shown_operands_are_a_typing

pub returns-clause-places : goal.returns-clause-places
returns-clause-places c = places_are_shown
