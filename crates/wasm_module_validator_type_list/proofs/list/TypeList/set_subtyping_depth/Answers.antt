use Rattle.std.proofs.Common.{◌∙◌, ap, refl}
use Rattle.wasm_module_validator_type_list.proofs.Holding.{groups_same, lists_set}
use Rattle.wasm_module_validator_type_list.proofs.list.TypeList.set_subtyping_depth.Goals as goal

pub invariant_of-self : goal.invariant_of-self
invariant_of-self c =
    lists_set c.self.inside.known c.self.inside.lists _ c.args.id.0 c.args.depth
    (record { forms = refl; types = refl; homes = refl; supertypes = refl; elements = refl; uniform = refl }) c.set_depth.ensures c.self.invariant

pub returns-clause-groups : goal.returns-clause-groups
returns-clause-groups c =
    groups_same c.self.inside.lists _ (record { forms = refl; types = refl; homes = refl; supertypes = refl; elements = refl; uniform = refl })
    ∙ ap (λ l. l.groups) c.self.view_is
