use Rattle.std.proofs.Common.{refl}
use Rattle.wasm_module_validator_section_order.specs.items.FullLaws.{unless_full}
use Rattle.wasm_module_validator_section_order.specs.sections.Kinds.{data_read}
use Rattle.wasm_module_validator_drivers.proofs.Checking.{always, segment_answer, segment_added, segment_refused}
use Rattle.wasm_module_validator_drivers.proofs.data.DataCheckAddItemData.add.Goals as goal

pub returns-clause-answer : goal.returns-clause-answer
returns-clause-answer c =
    unless_full _ c.check_data_with.result _ (segment_answer c.args.self.now.«module».now c.types.result.now.groups c.state.result.now c.types.ensures.value c.state.ensures (data_read c.args.item) c.check_data_with.result
    c.check_data_with.ensures.answer)

pub returns-clause-added : goal.returns-clause-added
returns-clause-added c =
    segment_added c.args.self.now.«module».now c.types.result.now.groups c.state.result.now c.types.ensures.value c.state.ensures (data_read c.args.item) c.check_data_with.result

pub returns-clause-refused : goal.returns-clause-refused
returns-clause-refused c =
    unless_full _ c.check_data_with.result _ (segment_refused c.args.self.now.«module».now c.types.result.now.groups c.state.result.now c.types.ensures.value c.state.ensures (data_read c.args.item) c.check_data_with.result
    c.check_data_with.ensures.answer)

pub returns-clause-grown : goal.returns-clause-grown
returns-clause-grown c = always c.check_data_with.result _ refl
