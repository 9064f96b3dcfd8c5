use Rattle.std.proofs.Common.{◌∙◌, ap, sym, arith}
use Rattle.std.specs.Prelude.{slice_get}
use Rattle.wasm_module_validator_type_storage.specs.trees.Groups.{count, group_numbers}
use Rattle.wasm_module_validator_type_list.proofs.Parts.{home_total}
use Rattle.wasm_module_validator_type_list.proofs.Finding.{one_viewed}
use Rattle.wasm_module_validator_type_list.proofs.list.TypeList.rec_group_id_of.Goals as goal

pub index-requires : goal.index-requires
index-requires c = omega (arith, home_total _ c.self.inside.lists c.self.inside.known c.self.invariant, ap (λ l. count l.groups) c.self.view_is, c.number.ensures, c.requires)

pub returns : goal.returns
returns c =
    ap (λ k. slice_get (group_numbers c.args.self.now.groups) k) (sym c.number.ensures)
    ∙ one_viewed (λ n. n.0) c.self.inside.lists.homes.items (group_numbers c.args.self.now.groups) c.number.result c.index.result.now
    (c.self.invariant.homes ∙ ap (λ l. group_numbers l.groups) c.self.view_is) c.index.ensures
