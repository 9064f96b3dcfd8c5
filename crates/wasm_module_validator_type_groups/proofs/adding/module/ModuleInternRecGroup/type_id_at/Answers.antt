use Rattle.std.proofs.lemmas.Grind.{elements}
use Rattle.std.proofs.Common.{arith}
use Rattle.wasm_module_validator_type_groups.proofs.adding.module.ModuleInternRecGroup.type_id_at.Goals as goal

pub returns-in-Some-clause-id : goal.returns-in-Some-clause-id
returns-in-Some-clause-id c = grind (arith, elements)
