use Rattle.wasm_module_validator_state.specs.invariant.laws.Deciding.{constants_see}
use Rattle.wasm_module_validator_state.proofs.invariant.laws.constants_see_the_tree.Goals as goal

pub returns : goal.returns
returns c = constants_see
