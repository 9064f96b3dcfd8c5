use Rattle.wasm_module_validator_initialisers.proofs.Parts.{init_answer, init_refused}
use Rattle.wasm_module_validator_initialisers.proofs.segments.tables.check_init.Goals as goal

pub returns-in-Ok-clause-answer : goal.returns-in-Ok-clause-answer
returns-in-Ok-clause-answer g c =
    init_answer c.args.settings.now (g.R.WasmModuleResources.meaning c.args.resources.now) c.args.imported_globals _ c.args.element_type c.args.init.now _ c.in-Expr.is
    c.in-Ok.ensures.answer c.check_constant.ensures.answer

pub returns-in-Ok-clause-refused : goal.returns-in-Ok-clause-refused
returns-in-Ok-clause-refused g c =
    init_refused c.args.settings.now (g.R.WasmModuleResources.meaning c.args.resources.now) c.args.imported_globals _ c.args.element_type c.args.init.now _ c.args.offset c.in-Expr.is
    c.in-Ok.ensures.answer c.check_constant.ensures.refused
