use Rattle.std.proofs.Common.{◌∙◌, sym}
use Rattle.wasm_module_validator_initialisers.proofs.Parts.{active_answer, active_refused}
use Rattle.wasm_module_validator_initialisers.proofs.segments.data.check_data.Goals as goal

pub returns-in-Some-clause-answer : goal.returns-in-Some-clause-answer
returns-in-Some-clause-answer g c =
    active_answer c.args.settings.now (g.R.WasmModuleResources.meaning c.args.resources.now) c.args.imported_globals _ c.args.segment.now.kind _ _ c.in-Some.memory _
    c.in-Active.is (sym c.memory_at.ensures ∙ c.in-Some.is) c.index_type.ensures c.check_constant.ensures.answer

pub returns-in-Some-clause-refused : goal.returns-in-Some-clause-refused
returns-in-Some-clause-refused g c =
    active_refused c.args.settings.now (g.R.WasmModuleResources.meaning c.args.resources.now) c.args.imported_globals _ c.args.segment.now.kind _ _ c.in-Some.memory _
    c.in-Active.is (sym c.memory_at.ensures ∙ c.in-Some.is) c.index_type.ensures c.args.offset c.check_constant.ensures.refused
