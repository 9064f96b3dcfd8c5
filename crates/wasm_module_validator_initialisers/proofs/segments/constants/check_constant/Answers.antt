use Rattle.std.proofs.Common.{◌∙◌}
use Rattle.wasm_module_validator_initialisers.proofs.Parts.{constant_answer, constant_refused}
use Rattle.wasm_module_validator_initialisers.proofs.segments.constants.check_constant.Goals as goal

pub returns-clause-answer : goal.returns-clause-answer
returns-clause-answer g c =
    constant_answer c.args.settings.now (g.R.WasmModuleResources.meaning c.args.resources.now) c.args.imported_globals _ c.args.ty c.args.expr.now _ _ c.features.ensures
    (c.new-judged.ensures ∙ c.reader_by.ensures) c.check_const_expr.ensures.checks

pub returns-clause-refused : goal.returns-clause-refused
returns-clause-refused g c =
    constant_refused c.args.settings.now (g.R.WasmModuleResources.meaning c.args.resources.now) c.args.imported_globals _ c.args.ty c.args.expr.now _ _ c.features.ensures
    (c.new-judged.ensures ∙ c.reader_by.ensures) c.check_const_expr.ensures.checks
