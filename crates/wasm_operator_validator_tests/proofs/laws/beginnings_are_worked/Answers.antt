use Rattle.wasm_operator_validator_tests.specs.BeginningLaws.{beginning_rows, constants_begin}
use Rattle.wasm_operator_validator_tests.proofs.laws.beginnings_are_worked.Goals as goal

pub returns-clause-functions : goal.returns-clause-functions
returns-clause-functions c = beginning_rows

pub returns-clause-constants : goal.returns-clause-constants
returns-clause-constants c = constants_begin
