use Rattle.wasm_module_validator_function_bodies.specs.laws.Functions.{functions_are}
use Rattle.wasm_module_validator_function_bodies.proofs.laws.functions_are_those_of_the_rules.Goals as goal

pub returns : goal.returns
returns c = functions_are
