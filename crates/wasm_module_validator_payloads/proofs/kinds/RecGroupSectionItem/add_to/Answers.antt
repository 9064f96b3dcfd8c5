use Rattle.std.proofs.Common.{refl}
use Rattle.wasm_module_validator_section_order.specs.items.FullLaws.{either_from}
use Rattle.wasm_module_validator_canonical_types.specs.laws.Spelled.{read_group}
use Rattle.wasm_module_validator_section_order.specs.sections.Kinds.{group_read}
use Rattle.wasm_module_validator_payloads.proofs.Counting.{group_added}
use Rattle.wasm_module_validator_payloads.proofs.kinds.RecGroupSectionItem.add_to.Goals as goal

pub add_group-requires-clause-indices : goal.add_group-requires-clause-indices
add_group-requires-clause-indices c = let h = c.requires.read in read_group h.0 h.1 h.2 c.args.self h.3

pub returns-in-Ok-clause-answer : goal.returns-in-Ok-clause-answer
returns-in-Ok-clause-answer c = λ z m h. c.in-Ok.ensures.answer z m h.reading h.counted

pub returns-in-Err-clause-answer : goal.returns-in-Err-clause-answer
returns-in-Err-clause-answer c = either_from (λ past. (refl, past)) (λ told z m h. told z m h.reading h.counted) c.in-Err.ensures.answer

pub returns-in-Ok-clause-added : goal.returns-in-Ok-clause-added
returns-in-Ok-clause-added c =
    group_added (group_read c.args.self) c.args.types.now.groups c.add_group.new.types.groups c.args.state.now c.add_group.new.state c.args.groups.now c.in-Ok.ensures.added
