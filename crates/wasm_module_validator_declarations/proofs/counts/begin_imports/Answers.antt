use Rattle.wasm_module_validator_state.specs.invariant.laws.Beginning.{imports_fit}
use Rattle.wasm_module_validator_declarations.proofs.Telling.{tells_from}
use Rattle.wasm_module_validator_declarations.proofs.counts.begin_imports.Goals as goal

pub returns-clause-answer : goal.returns-clause-answer
returns-clause-answer c =
    λ groups z m h. tells_from c.check_import_count.result _ _ (imports_fit groups c.args.state.now z m h.stands c.args.count) c.check_import_count.ensures.answer
