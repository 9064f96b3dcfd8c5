use Rattle.std.proofs.Common.{rules}
use Rattle.wasm_module_validator_type_storage.proofs.snapshots.SnapshotList.push.Goals as goal

pub returns-then-len-clause-succeeds : goal.returns-then-len-clause-succeeds
returns-then-len-clause-succeeds c = search rules
