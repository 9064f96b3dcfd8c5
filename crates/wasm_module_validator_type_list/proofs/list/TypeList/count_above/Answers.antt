use Rattle.std.proofs.Common.{◌∙◌, ap, subst}
use Rattle.wasm_module_validator_type_storage.specs.trees.Groups.{supertype_ids}
use Rattle.wasm_module_validator_type_storage.specs.trees.Formed.{IsFormed}
use Rattle.wasm_module_validator_type_list.proofs.Ancestry.{depth_told, told_shallow}
use Rattle.wasm_module_validator_type_list.proofs.list.TypeList.count_above.Goals as goal

pub returns-clause-depth : goal.returns-clause-depth
returns-clause-depth c = depth_told _ _ c.args.id c.depth.result (c.self.invariant.supertypes ∙ ap (λ l. supertype_ids l.groups) c.self.view_is) c.depth.ensures.depth

pub returns-clause-told : goal.returns-clause-told
returns-clause-told c =
    told_shallow c.args.self.now.groups c.self.inside.lists.supertypes.items (c.self.invariant.supertypes ∙ ap (λ l. supertype_ids l.groups) c.self.view_is)
    (subst IsFormed (ap (λ l. l.groups) c.self.view_is) c.self.invariant.formed) c.depth.result c.args.id c.depth.ensures.told
