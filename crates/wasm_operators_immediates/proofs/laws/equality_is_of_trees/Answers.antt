use Rattle.wasm_operators_immediates.proofs.Equality.{law, tree_law, arguments, orderings, blocks, vectors, catches, handles, try_tables, resume_tables}
use Rattle.wasm_operators_immediates.proofs.laws.equality_is_of_trees.Goals as goal

pub returns-clause-argument : goal.returns-clause-argument
returns-clause-argument c = law arguments

pub returns-clause-ordering : goal.returns-clause-ordering
returns-clause-ordering c = law orderings

pub returns-clause-block : goal.returns-clause-block
returns-clause-block c = law (blocks c.equality_is_identity.ensures.value)

pub returns-clause-vector : goal.returns-clause-vector
returns-clause-vector c = law vectors

pub returns-clause-catch : goal.returns-clause-catch
returns-clause-catch c = law catches

pub returns-clause-handle : goal.returns-clause-handle
returns-clause-handle c = law handles

pub returns-clause-try_table : goal.returns-clause-try_table
returns-clause-try_table c = tree_law (try_tables c.equality_is_identity.ensures.value)

pub returns-clause-resume_table : goal.returns-clause-resume_table
returns-clause-resume_table c = tree_law resume_tables
