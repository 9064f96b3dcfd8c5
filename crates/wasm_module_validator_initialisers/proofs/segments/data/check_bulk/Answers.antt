use Rattle.std.proofs.Common.{rules}
use Rattle.wasm_module_validator_initialisers.proofs.segments.data.check_bulk.Goals as goal

pub returns-clause-answer : goal.returns-clause-answer
returns-clause-answer c = search rules
