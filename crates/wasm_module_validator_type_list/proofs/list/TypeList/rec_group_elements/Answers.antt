use Rattle.std.proofs.Common.{◌∙◌, ap, sym, length, arith}
use Rattle.std.specs.Prelude.{slice_get}
use Rattle.wasm_module_validator_type_storage.specs.trees.Groups.{group_ranges}
use Rattle.wasm_module_validator_type_list.proofs.Parts.{element_total}
use Rattle.wasm_module_validator_type_list.proofs.Finding.{one_viewed}
use Rattle.wasm_module_validator_type_list.proofs.list.TypeList.rec_group_elements.Goals as goal

pub index-requires : goal.index-requires
index-requires c = omega (arith, element_total _ c.self.inside.lists c.self.inside.known c.self.invariant, ap (λ l. length l.groups) c.self.view_is, c.number.ensures, c.requires)

pub returns : goal.returns
returns c =
    ap (λ k. slice_get (group_ranges c.args.self.now.groups) k) (sym c.number.ensures)
    ∙ one_viewed (λ r. (r.start.0, r.end.0)) c.self.inside.lists.elements.items (group_ranges c.args.self.now.groups) c.number.result c.index.result.now
    (c.self.invariant.elements ∙ ap (λ l. group_ranges l.groups) c.self.view_is) c.index.ensures
