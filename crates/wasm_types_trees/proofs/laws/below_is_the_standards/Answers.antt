use Rattle.wasm_types_trees.specs.laws.Standard as lemmas
use Rattle.wasm_types_trees.specs.laws.Valid.{below_is_in_groups}
use Rattle.wasm_types_trees.proofs.laws.below_is_the_standards.Goals as goal

pub returns-clause-sound : goal.returns-clause-sound
returns-clause-sound c = lemmas.below_is_on_sound_types

pub returns-clause-groups : goal.returns-clause-groups
returns-clause-groups c = below_is_in_groups
