use Rattle.wasm_types.specs.SpellsLaws.{composite_to, composite_from, sub_to, sub_from, group_to, group_from}
use Rattle.wasm_types.specs.TreeLaws.{group_read}
use Rattle.wasm_types.proofs.laws.bytes_spell_trees.Goals as goal

pub returns-clause-composite_types : goal.returns-clause-composite_types
returns-clause-composite_types c = λ z x text. (composite_to z x text, composite_from z x text)

pub returns-clause-subtypes : goal.returns-clause-subtypes
returns-clause-subtypes c = λ z x text. (sub_to z x text, sub_from z x text)

pub returns-clause-groups : goal.returns-clause-groups
returns-clause-groups c = λ z x text. (group_to z x text, group_from z x text)

pub returns-clause-trees : goal.returns-clause-trees
returns-clause-trees c = group_read
