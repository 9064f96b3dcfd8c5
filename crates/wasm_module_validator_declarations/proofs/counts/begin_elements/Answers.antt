use Rattle.wasm_module_validator_state.specs.invariant.laws.Beginning.{elements_fit}
use Rattle.wasm_module_validator_declarations.proofs.Telling.{tells_from}
use Rattle.wasm_module_validator_declarations.proofs.counts.begin_elements.Goals as goal

pub returns-clause-answer : goal.returns-clause-answer
returns-clause-answer c =
    λ groups z m h. tells_from c.check_element_segment_count.result _ _ (elements_fit groups c.args.state.now z m h.stands h.unread c.args.count) c.check_element_segment_count.ensures.answer
