use Rattle.std.proofs.Common.{rules}
use Rattle.wasm_module_validator_canonical_types.proofs.matches.with_rec_group.WithRecGroup+CoreTypeId.new.Goals as goal

pub returns-clause-group : goal.returns-clause-group
returns-clause-group c = search rules
