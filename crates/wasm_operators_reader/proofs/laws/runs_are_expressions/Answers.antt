use Rattle.wasm_operators_reader.specs.RunLaws.{run_expression, expression_run}
use Rattle.wasm_operators_reader.proofs.laws.runs_are_expressions.Goals as goal

pub returns-clause-sound : goal.returns-clause-sound
returns-clause-sound c = run_expression

pub returns-clause-complete : goal.returns-clause-complete
returns-clause-complete c = expression_run
