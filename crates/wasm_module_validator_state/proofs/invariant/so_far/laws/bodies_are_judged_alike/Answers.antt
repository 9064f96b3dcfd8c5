use Rattle.wasm_module_validator_state.specs.invariant.so_far.laws.Judging.{body_is_judged}
use Rattle.wasm_module_validator_state.proofs.invariant.so_far.laws.bodies_are_judged_alike.Goals as goal

pub returns : goal.returns
returns c = body_is_judged
