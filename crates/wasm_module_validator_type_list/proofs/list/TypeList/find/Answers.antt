use Rattle.std.proofs.Common.{rules}
use Rattle.std.proofs.Common.{ap, arith}
use Rattle.std.proofs.lemmas.Option.{slice_get_within}
use Rattle.wasm_module_validator_type_storage.specs.trees.Groups.{count, group_numbers}
use Rattle.wasm_module_validator_type_list.specs.List.{groups_in}
use Rattle.wasm_module_validator_type_list.proofs.Knowing.{found_some}
use Rattle.wasm_module_validator_type_list.proofs.Parts.{length_homes}
use Rattle.wasm_module_validator_type_list.proofs.list.TypeList.find.Goals as goal

pub rec_group_id_of-requires : goal.rec_group_id_of-requires
rec_group_id_of-requires c =
    let told = rw c.in-Some-id.is at c.id_of-id.ensures in
    let found = found_some (groups_in c.self.inside.lists) c.self.inside.lists.types.items c.self.inside.known c.in-Some.known c.args.group.now c.in-Some.is c.self.invariant.knows
    c.in-Some-id.id told in
    omega (
      arith,
      slice_get_within (group_numbers (groups_in c.self.inside.lists)) c.in-Some-id.id found.0 found.1,
      length_homes (groups_in c.self.inside.lists),
      ap (λ l. count l.groups) c.self.view_is,
      c.new.ensures,
    )

pub returns-in-Some-id : goal.returns-in-Some-id
returns-in-Some-id c = search rules
