use Rattle.wasm_module_validator_state.specs.invariant.laws.Deciding.{tables_fit}
use Rattle.wasm_module_validator_declarations.proofs.Telling.{tells_from}
use Rattle.wasm_module_validator_declarations.proofs.counts.begin_tables.Goals as goal

pub returns-clause-answer : goal.returns-clause-answer
returns-clause-answer c =
    λ groups z m h. tells_from c.check_table_count.result _ _ (tables_fit groups c.args.state.now z m h.stands c.args.count) c.check_table_count.ensures.answer
