use Rattle.std.proofs.Common.{List, subst}
use Rattle.wasm_sections_items.specs.imports.Spells.{ExportTree}
use Rattle.wasm_module_validator_exports.specs.names.Exports.{HasTried}
use Rattle.wasm_module_validator_exports.proofs.names.exports.Exports.add.Goals as goal

pub returns : goal.returns
returns c =
    subst (λ (xs : List ExportTree). HasTried (record { name = c.args.name.now; kind = c.args.kind; index = c.args.index }) xs c.add_named.new.self c.add_named.result)
    c.take_room.ensures c.add_named.ensures
