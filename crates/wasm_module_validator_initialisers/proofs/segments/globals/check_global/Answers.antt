use Rattle.wasm_module_validator_initialisers.specs.segments.Trees.{global_read}
use Rattle.wasm_module_validator_initialisers.proofs.Parts.{global_denied, global_refused}
use Rattle.wasm_module_validator_initialisers.proofs.segments.globals.check_global.Goals as goal

pub returns-in-Err-check_constant-clause-answer : goal.returns-in-Err-check_constant-clause-answer
returns-in-Err-check_constant-clause-answer g c =
    global_denied c.args.settings.now (g.R.WasmModuleResources.meaning c.args.resources.now) c.args.imported_globals _ c.check_global_type.new.ty (global_read c.args.global.now)
    c.in-Ok.ensures.named c.in-Err-check_constant.ensures.answer

pub returns-in-Err-check_constant-clause-refused : goal.returns-in-Err-check_constant-clause-refused
returns-in-Err-check_constant-clause-refused g c =
    global_refused c.args.settings.now (g.R.WasmModuleResources.meaning c.args.resources.now) c.args.imported_globals c.args.offset c.check_global_type.new.ty c.args.global.now
    c.in-Err-check_constant.error c.in-Ok.ensures.named c.in-Ok.ensures.answer c.in-Err-check_constant.ensures.refused
