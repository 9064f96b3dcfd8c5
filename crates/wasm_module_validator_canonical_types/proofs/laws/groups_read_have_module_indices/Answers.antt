use Rattle.wasm_module_validator_canonical_types.specs.laws.Spelled.{group_read, read_group}
use Rattle.wasm_module_validator_canonical_types.proofs.laws.groups_read_have_module_indices.Goals as goal

pub returns-clause-spelled : goal.returns-clause-spelled
returns-clause-spelled c = group_read

pub returns-clause-read : goal.returns-clause-read
returns-clause-read c = read_group
