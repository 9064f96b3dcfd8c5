use Rattle.wasm_module_validator_rules_in_order.specs.contexts.laws.Bodies.{body_agrees}
use Rattle.wasm_module_validator_rules_in_order.proofs.contexts.laws.bodies_look_at.Goals as goal

pub returns : goal.returns
returns c = body_agrees
