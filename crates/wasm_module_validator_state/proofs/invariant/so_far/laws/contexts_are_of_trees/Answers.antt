use Rattle.wasm_module_validator_state.specs.invariant.so_far.laws.Context.{context_is}
use Rattle.wasm_module_validator_state.specs.invariant.so_far.laws.Judging.{context_so_far_is}
use Rattle.wasm_module_validator_state.proofs.invariant.so_far.laws.contexts_are_of_trees.Goals as goal

pub returns-clause-trees : goal.returns-clause-trees
returns-clause-trees c = context_is

pub returns-clause-items : goal.returns-clause-items
returns-clause-items c = context_so_far_is
