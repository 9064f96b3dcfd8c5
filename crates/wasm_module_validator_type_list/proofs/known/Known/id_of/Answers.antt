use Rattle.std.proofs.Common.{◌∙◌, ap, sym, map, length}
use Rattle.wasm_types.specs.Entries.{declared_of, declared_types}
use Rattle.wasm_module_validator_type_list.proofs.Besides.{ordered_beside, found_one, only_item}
use Rattle.wasm_module_validator_type_list.proofs.known.Known.id_of.Goals as goal

pub find-requires : goal.find-requires
find-requires c = ordered_beside c.args.types.now.items c.index-types-0.result c.args.self.now.alone c.requires

pub returns : goal.returns
returns c =
    found_one c.equality_is_of_declarations.ensures.subtypes c.args.types.now.items c.args.self.now.alone c.index-types-0.result (declared_types c.args.group.now)
    (ap (map declared_of) (sym c.types-2.ensures)
    ∙ only_item declared_of c.types-2.result.now c.index-types-0.result (ap length (c.types-2.ensures ∙ sym c.types.ensures) ∙ c.if-types-ne1.false) c.index-types-0.is)
    c.find.result.0 c.find.ensures
