use Rattle.wasm_module_validator_streaming.specs.laws.WorkedPassing.{front_rows}
use Rattle.wasm_module_validator_streaming.specs.laws.WorkedReaders.{reader_rows, step_rows}
use Rattle.wasm_module_validator_streaming.proofs.laws.readers_are_worked.Goals as goal

pub returns-clause-readers : goal.returns-clause-readers
returns-clause-readers c = reader_rows

pub returns-clause-steps : goal.returns-clause-steps
returns-clause-steps c = step_rows

pub returns-clause-fronts : goal.returns-clause-fronts
returns-clause-fronts c = front_rows
