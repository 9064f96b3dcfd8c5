use Rattle.std.proofs.Common.{rules}
use Rattle.wasm_operator_validator_memory.proofs.memories.find_data.Goals as goal

pub returns-in-None-clause-content : goal.returns-in-None-clause-content
returns-in-None-clause-content c = search rules
