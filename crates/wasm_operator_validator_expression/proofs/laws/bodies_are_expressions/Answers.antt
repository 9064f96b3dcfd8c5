use Rattle.wasm_operator_validator_expression.specs.laws.Ways.{bodies_are_expressions}
use Rattle.wasm_operator_validator_expression.proofs.laws.bodies_are_expressions.Goals as goal

pub returns : goal.returns
returns c = bodies_are_expressions
