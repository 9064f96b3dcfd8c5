use Rattle.wasm_operator_validator_state.specs.laws.Bodies.{bodies_are_accepted}
use Rattle.wasm_operator_validator_state.proofs.laws.bodies_are_accepted.Goals as goal

pub returns : goal.returns
returns c = bodies_are_accepted
