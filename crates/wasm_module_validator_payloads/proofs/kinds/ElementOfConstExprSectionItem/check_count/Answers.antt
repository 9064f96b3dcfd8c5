use Rattle.wasm_module_validator_state.specs.invariant.laws.Beginning.{elements_fit}
use Rattle.wasm_module_validator_payloads.proofs.Counting.{alike_told, other_there}
use Rattle.wasm_module_validator_payloads.proofs.kinds.ElementOfConstExprSectionItem.check_count.Goals as goal

pub returns : goal.returns
returns c = record {
  answer = λ groups z m h u. alike_told c.check_element_segment_count.result _ _ (elements_fit groups c.args.state.now z m h u c.args.count) c.check_element_segment_count.ensures.answer;
  refused = other_there c.check_element_segment_count.result c.args.offset c.check_element_segment_count.ensures.refused;
}
