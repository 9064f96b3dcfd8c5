use Rattle.std.proofs.Common.{rules}
use Rattle.wasm_module_validator_type_list.proofs.list.TypeList.rec_group_local_id.Goals as goal

pub returns-clause-answer : goal.returns-clause-answer
returns-clause-answer c = search rules
