use Rattle.std.proofs.Common.{rules}
use Rattle.wasm_module_validator_type_groups.proofs.adding.module.ModuleInternRecGroup.reserve_type_ids.Goals as goal

pub returns-clause-room : goal.returns-clause-room
returns-clause-room c = search rules
