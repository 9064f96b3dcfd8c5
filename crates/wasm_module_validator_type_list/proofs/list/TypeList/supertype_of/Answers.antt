use Rattle.std.proofs.Common.{◌∙◌, ap, sym, subst, arith, get_or, None}
use Rattle.wasm_module_validator_type_storage.specs.trees.Groups.{count, supertype_ids}
use Rattle.wasm_module_validator_type_storage.specs.trees.Formed.{IsFormed}
use Rattle.wasm_module_validator_type_list.proofs.Parts.{super_total}
use Rattle.wasm_module_validator_type_list.proofs.Finding.{get_default, earlier_read}
use Rattle.wasm_module_validator_type_list.proofs.list.TypeList.supertype_of.Goals as goal

pub index-requires : goal.index-requires
index-requires c = omega (arith, super_total _ c.self.inside.lists c.self.inside.known c.self.invariant, ap (λ l. count l.groups) c.self.view_is, c.number.ensures, c.requires)

pub returns-clause-declared : goal.returns-clause-declared
returns-clause-declared c =
    sym (get_default c.self.inside.lists.supertypes.items c.number.result None c.index.result.now c.index.ensures)
    ∙ ap (λ l. get_or l c.number.result None) (c.self.invariant.supertypes ∙ ap (λ l. supertype_ids l.groups) c.self.view_is)
    ∙ ap (λ k. get_or (supertype_ids c.args.self.now.groups) k None) c.number.ensures

pub returns-clause-earlier : goal.returns-clause-earlier
returns-clause-earlier c =
    let declared = sym (get_default c.self.inside.lists.supertypes.items c.number.result None c.index.result.now c.index.ensures)
    ∙ ap (λ l. get_or l c.number.result None) (c.self.invariant.supertypes ∙ ap (λ l. supertype_ids l.groups) c.self.view_is)
    ∙ ap (λ k. get_or (supertype_ids c.args.self.now.groups) k None) c.number.ensures in
    earlier_read c.args.self.now.groups (subst IsFormed (ap (λ l. l.groups) c.self.view_is) c.self.invariant.formed) c.args.id c.index.result.now c.requires declared
