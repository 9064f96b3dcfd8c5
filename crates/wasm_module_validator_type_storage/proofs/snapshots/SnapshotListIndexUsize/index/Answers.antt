use Rattle.std.proofs.Common.{rules}
use Rattle.wasm_module_validator_type_storage.proofs.snapshots.SnapshotListIndexUsize.index.Goals as goal

pub returns : goal.returns
returns c = search rules
