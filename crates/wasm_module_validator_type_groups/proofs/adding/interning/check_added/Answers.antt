use Rattle.wasm_module_validator_type_groups.proofs.Ranges.{range_within}
use Rattle.wasm_module_validator_type_groups.proofs.adding.interning.check_added.Goals as goal

pub check_types-requires-clause-order : goal.check_types-requires-clause-order
check_types-requires-clause-order g c = (range_within c.args.types.now.groups c.args.number.0 _ _ c.rec_group_elements-elements.ensures).0

pub check_types-requires-clause-end : goal.check_types-requires-clause-end
check_types-requires-clause-end g c = (range_within c.args.types.now.groups c.args.number.0 _ _ c.rec_group_elements-elements.ensures).1
