use Rattle.std.proofs.Common.{◌∙◌, sym, ap}
use Rattle.wasm_types.specs.settings.Features.{has, Exceptions}
use Rattle.wasm_types.specs.settings.Settings.{Settings}
use Rattle.wasm_module_validator_state.specs.invariant.laws.Deciding.{tags_fit}
use Rattle.wasm_module_validator_payloads.proofs.Counting.{both_told, other_there}
use Rattle.wasm_module_validator_payloads.proofs.kinds.TagTypeSectionItem.check_count.Goals as goal

pub returns : goal.returns
returns c = record {
  answer = λ groups z m h u.
      let features = c.features.ensures ∙ (ap (λ (y : Settings). y.features) c.settings.ensures ∙ ap (λ (y : Settings). y.features) h.settings) in
      let fact = ap (has Exceptions) (sym features) ∙ (sym c.exceptions.ensures ∙ c.if-not-exceptions.false) in
      both_told c.check_tag_count.result _ _ _ fact (tags_fit groups c.args.state.now z m h c.args.count) c.check_tag_count.ensures.answer;
  refused = other_there c.check_tag_count.result c.args.offset c.check_tag_count.ensures.refused;
}
