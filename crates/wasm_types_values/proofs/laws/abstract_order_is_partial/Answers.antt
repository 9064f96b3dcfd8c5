use Rattle.wasm_types_trees.specs.AbstractOrder.{same}
use Rattle.wasm_types_trees.specs.laws.Abstract.{abstract_transitive, abstract_antisymmetric}
use Rattle.wasm_types_values.proofs.laws.abstract_order_is_partial.Goals as goal

pub returns-clause-reflexive : goal.returns-clause-reflexive
returns-clause-reflexive c = λ a. same

pub returns-clause-transitive : goal.returns-clause-transitive
returns-clause-transitive c = abstract_transitive

pub returns-clause-antisymmetric : goal.returns-clause-antisymmetric
returns-clause-antisymmetric c = abstract_antisymmetric
