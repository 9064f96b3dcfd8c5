use Rattle.wasm_module_validator_tests.specs.TypeLaws.{types_interned, types_matched, types_valid}
use Rattle.wasm_module_validator_tests.proofs.laws.types_are_worked.Goals as goal

pub returns-clause-interned : goal.returns-clause-interned
returns-clause-interned c = types_interned

pub returns-clause-matched : goal.returns-clause-matched
returns-clause-matched c = types_matched

pub returns-clause-valid : goal.returns-clause-valid
returns-clause-valid c = types_valid
