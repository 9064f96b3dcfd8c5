use Rattle.wasm_types_trees.proofs.WorkedMatchProofs.{matches_worked}
use Rattle.wasm_types_trees.proofs.worked.matching_of_worked_types.Goals as goal

pub returns : goal.returns
returns c = matches_worked
