use Rattle.wasm_module_validator_initialisers.proofs.Checked.{item_type_refused}
use Rattle.wasm_module_validator_initialisers.proofs.elements.elements.check_item_type.Goals as goal

pub returns-in-Expressions-clause-refused : goal.returns-in-Expressions-clause-refused
returns-in-Expressions-clause-refused g c =
    item_type_refused _ c.args.settings.now (g.R.WasmModuleResources.meaning c.args.resources.now).«module» c.args.offset c.args.items.now _ c.in-Expressions.is c.check_reference.ensures.refused
