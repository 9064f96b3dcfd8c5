use Rattle.std.proofs.Common.{subst}
use Rattle.wasm_module_validator_type_storage.specs.trees.Groups.{count}
use Rattle.wasm_module_validator_type_storage.specs.trees.Formed.{IsGroupFormed}
use Rattle.wasm_module_validator_type_list.proofs.Knowing.{group_below}
use Rattle.wasm_module_validator_type_list.proofs.Alone.{group_alone}
use Rattle.wasm_module_validator_type_list.proofs.list.TypeList.intern_sub_type.Goals as goal

pub intern_canonical_rec_group-requires-clause-formed : goal.intern_canonical_rec_group-requires-clause-formed
intern_canonical_rec_group-requires-clause-formed c =
    subst (IsGroupFormed (count c.args.self.now.groups)) (group_alone c.in_ok-group.group c.args.sub_ty c.in_ok-group.ensures.types) c.requires.formed

pub rec_group_elements-requires : goal.rec_group_elements-requires
rec_group_elements-requires c =
    group_below c.intern_canonical_rec_group.new.self.groups c.in_ok-number.number.0 _ c.in_ok-number.ensures.interned.at
