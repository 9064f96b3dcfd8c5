use Rattle.wasm_module_validator_initialisers.proofs.Names.{element_named}
use Rattle.wasm_module_validator_initialisers.proofs.Checked.{type_denied, mode_denied, items_denied, items_refused, all_is}
use Rattle.wasm_module_validator_initialisers.proofs.elements.elements.check_element.Goals as goal

pub returns-in-Err-clause-answer : goal.returns-in-Err-clause-answer
returns-in-Err-clause-answer g c =
    type_denied c.args.settings.now (g.R.WasmModuleResources.meaning c.args.resources.now) c.args.imported_globals c.args.element c.in-Err.error.kind c.in-Err.ensures.answer

pub returns-in-Err-check_mode-clause-answer : goal.returns-in-Err-check_mode-clause-answer
returns-in-Err-check_mode-clause-answer g c =
    mode_denied c.args.settings.now (g.R.WasmModuleResources.meaning c.args.resources.now) c.args.imported_globals c.args.element c.in-Ok.ty c.in-Ok.ensures.named
    c.in-Err-check_mode.error.kind c.in-Err-check_mode.ensures.answer

pub returns-in-Err-check_items-clause-answer : goal.returns-in-Err-check_items-clause-answer
returns-in-Err-check_items-clause-answer g c =
    items_denied c.args.settings.now (g.R.WasmModuleResources.meaning c.args.resources.now) c.args.imported_globals c.args.element c.in-Ok.ty c.in-Ok.ensures.named
    c.in-Err-check_items.error.kind c.in-Err-check_items.ensures.answer

pub returns-in-Err-check_items-clause-refused : goal.returns-in-Err-check_items-clause-refused
returns-in-Err-check_items-clause-refused g c =
    items_refused c.args.settings.now (g.R.WasmModuleResources.meaning c.args.resources.now) c.args.imported_globals c.args.element c.in-Ok.ty c.in-Ok.ensures.named
    c.args.offset c.in-Err-check_items.error c.in-Ok.ensures.answer c.in-Ok-check_mode.ensures.answer c.in-Err-check_items.ensures.refused

pub returns-clause-answer : goal.returns-clause-answer
returns-clause-answer g c =
    all_is c.args.settings.now (g.R.WasmModuleResources.meaning c.args.resources.now) c.args.imported_globals c.args.element c.in-Ok.ty c.in-Ok.ensures.named
    c.in-Ok.ensures.answer c.in-Ok-check_mode.ensures.answer c.in-Ok-check_items.ensures.answer

pub returns-clause-names : goal.returns-clause-names
returns-clause-names g c =
    element_named c.args.settings.now c.args.element c.args.names.now.items c.check_mode.new.names.items c.check_items.new.names.items
    c.in-Ok-check_mode.ensures.named c.in-Ok-check_items.ensures.named
