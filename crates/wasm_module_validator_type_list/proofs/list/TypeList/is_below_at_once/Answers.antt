use Rattle.std.proofs.Common.{◌∙◌, ap, subst}
use Rattle.wasm_module_validator_type_storage.specs.trees.Groups.{supertype_ids}
use Rattle.wasm_module_validator_type_storage.specs.trees.Formed.{IsFormed}
use Rattle.wasm_module_validator_type_list.proofs.Ancestry.{told, both_told}
use Rattle.wasm_module_validator_type_list.proofs.list.TypeList.is_below_at_once.Goals as goal

pub returns-clause-below : goal.returns-clause-below
returns-clause-below c =
    told c.args.self.now.groups c.self.inside.lists.supertypes.items c.args.a c.args.b c.is_below.result
    (c.self.invariant.supertypes ∙ ap (λ l. supertype_ids l.groups) c.self.view_is) c.is_below.ensures.below

pub returns-clause-told : goal.returns-clause-told
returns-clause-told c =
    both_told c.args.self.now.groups c.self.inside.lists.supertypes.items (c.self.invariant.supertypes ∙ ap (λ l. supertype_ids l.groups) c.self.view_is)
    (subst IsFormed (ap (λ l. l.groups) c.self.view_is) c.self.invariant.formed) c.is_below.result c.args.a c.args.b c.is_below.ensures.told
