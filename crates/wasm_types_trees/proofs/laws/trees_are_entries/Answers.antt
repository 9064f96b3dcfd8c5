use Rattle.wasm_types_trees.specs.laws.Trees.{entries_back, group_again}
use Rattle.wasm_types_trees.proofs.laws.trees_are_entries.Goals as goal

pub returns-clause-entries : goal.returns-clause-entries
returns-clause-entries c = entries_back

pub returns-clause-trees : goal.returns-clause-trees
returns-clause-trees c = group_again
