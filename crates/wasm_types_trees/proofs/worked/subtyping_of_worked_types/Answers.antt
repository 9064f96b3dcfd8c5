use Rattle.wasm_types_trees.proofs.WorkedSubtypeProofs.{subtypes_worked}
use Rattle.wasm_types_trees.proofs.worked.subtyping_of_worked_types.Goals as goal

pub returns : goal.returns
returns c = subtypes_worked
