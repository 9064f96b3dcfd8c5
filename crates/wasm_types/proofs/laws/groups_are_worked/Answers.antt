use Rattle.wasm_types.specs.WorkedGroupLaws.{composite_bytes, sub_bytes, group_bytes, kinds_told, texts_written}
use Rattle.wasm_types.proofs.laws.groups_are_worked.Goals as goal

pub returns-clause-composite_types : goal.returns-clause-composite_types
returns-clause-composite_types c = composite_bytes

pub returns-clause-subtypes : goal.returns-clause-subtypes
returns-clause-subtypes c = sub_bytes

pub returns-clause-groups : goal.returns-clause-groups
returns-clause-groups c = group_bytes

pub returns-clause-kinds : goal.returns-clause-kinds
returns-clause-kinds c = kinds_told

pub returns-clause-texts : goal.returns-clause-texts
returns-clause-texts c = texts_written
