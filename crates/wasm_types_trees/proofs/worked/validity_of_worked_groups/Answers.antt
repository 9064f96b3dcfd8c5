use Rattle.wasm_types_trees.proofs.WorkedGroupProofs.{groups_worked}
use Rattle.wasm_types_trees.proofs.worked.validity_of_worked_groups.Goals as goal

pub returns : goal.returns
returns c = groups_worked
