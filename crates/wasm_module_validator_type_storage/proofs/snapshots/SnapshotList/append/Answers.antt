use Rattle.std.proofs.Common.{arith}
use Rattle.std.proofs.lemmas.Grind.{common_steps}
use Rattle.std.proofs.Common.{rules}
use Rattle.wasm_module_validator_type_storage.proofs.snapshots.SnapshotList.append.Goals as goal

pub returns-then-is_none-clause-taken : goal.returns-then-is_none-clause-taken
returns-then-is_none-clause-taken c = search rules

pub returns-clause-items : goal.returns-clause-items
returns-clause-items c = grind (arith, common_steps)
