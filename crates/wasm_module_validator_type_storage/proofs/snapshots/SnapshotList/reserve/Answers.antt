use Rattle.std.proofs.Common.{rules}
use Rattle.wasm_module_validator_type_storage.proofs.snapshots.SnapshotList.reserve.Goals as goal

pub returns-clause-ok : goal.returns-clause-ok
returns-clause-ok c = search rules
