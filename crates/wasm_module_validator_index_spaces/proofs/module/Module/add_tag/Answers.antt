use Rattle.std.proofs.Common.{rules}
use Rattle.wasm_module_validator_index_spaces.proofs.module.Module.add_tag.Goals as goal

pub returns-clause-added : goal.returns-clause-added
returns-clause-added c = search rules
