use Rattle.wasm_types.specs.Laws.{reaches_then}
use Rattle.wasm_module_validator_function_bodies.proofs.locals.read_group.Goals as goal

pub returns-clause-forward : goal.returns-clause-forward
returns-clause-forward c = reaches_then _ _ _ c.in-Some.ensures.forward c.in_ok-ty.ensures.forward
