use Rattle.std.proofs.Common.{[], ◌∷◌, ◌++◌, false, true}
use Rattle.wasm_operators_enums.specs.declared.gc.DescriptorOperator.TheVariants as descriptor
use Rattle.wasm_operators_enums.specs.Op as op
use Rattle.wasm_operators_immediates.specs.declared.proposal.Proposal.TheVariants.{CustomDescriptors}
use Rattle.wasm_operator_validator_state.specs.Refusals.{refused, kind_of}
use Rattle.wasm_operator_validator_resources.specs.Meaning.{type_in}
use Rattle.wasm_operator_validator_state.specs.State.{types_in}
use Rattle.wasm_operator_validator_stacks.specs.determined.laws.Determined.{not_begun}
use Rattle.wasm_operator_validator_proposals.proofs.Plain.{descriptor_is, refused_row, exchanged_row}
use Rattle.std.proofs.Common.{◌∙◌, List, Some, sym, ap}
use Rattle.wasm_types.specs.values.declared.value.ValType.TheVariants as vals
use Rattle.wasm_operator_validator_rules.specs.Operands.{ValueType}
use Rattle.wasm_operator_validator_control.specs.laws.Labels.{label_at, no_label_at}
use Rattle.wasm_operator_validator_objects.proofs.Casting.{are_taken}
use Rattle.wasm_operator_validator_proposals.proofs.Describing.{no_cast_by, undescribed_cast, no_label_by, empty_label_by, carries_other_by, branch_by_row}
use Rattle.wasm_operator_validator_proposals.proofs.descriptors.check_br_on_cast_desc_eq.Goals as goal

pub returns-in-Err : goal.returns-in-Err
returns-in-Err g c =
    let m = g.R.WasmModuleResources.meaning c.args.resources.now in
    not_begun c.in-Err.refusal m c.args.validator.now (op.Descriptor c.args.op) CustomDescriptors false (descriptor_is c.args.op).plain c.in-Err.ensures.begins c.in-Err.ensures.stops

pub returns-in-Err-cast_of : goal.returns-in-Err-cast_of
returns-in-Err-cast_of g c =
    let m = g.R.WasmModuleResources.meaning c.args.resources.now in
    refused_row _ m c.args.validator.now (op.Descriptor c.args.op) CustomDescriptors (descriptor_is c.args.op) c.in-Ok.ensures.begins
    (no_cast_by m c.args.validator.now c.args.op c.args.relative_depth c.args.from.now c.args.to.now c.args.fails c.requires c.in-Err-cast_of.ensures)

pub returns-in-None : goal.returns-in-None
returns-in-None g c =
    let m = g.R.WasmModuleResources.meaning c.args.resources.now in
    refused_row _ m c.args.validator.now (op.Descriptor c.args.op) CustomDescriptors (descriptor_is c.args.op) c.in-Ok.ensures.begins
    (undescribed_cast m c.args.validator.now c.args.op c.args.relative_depth c.args.from.now c.args.to.now c.in-Ok-cast_of.cast.0 c.in-Ok-cast_of.cast.1 c.args.fails c.heap_type.result c.requires c.in-Ok-cast_of.ensures c.heap_type.ensures.value c.in-None.ensures)

pub returns-in-None-jump : goal.returns-in-None-jump
returns-in-None-jump g c =
    let m = g.R.WasmModuleResources.meaning c.args.resources.now in
    refused_row _ m c.args.validator.now (op.Descriptor c.args.op) CustomDescriptors (descriptor_is c.args.op) c.in-Ok.ensures.begins
    (no_label_by m c.args.validator.now c.args.op c.args.relative_depth c.args.from.now c.args.to.now c.args.fails c.requires (no_label_at m c.args.validator.now.opens c.args.relative_depth c.in-None-jump.ensures))

pub returns-in-None-split_label : goal.returns-in-None-split_label
returns-in-None-split_label g c =
    let m = g.R.WasmModuleResources.meaning c.args.resources.now in
    refused_row _ m c.args.validator.now (op.Descriptor c.args.op) CustomDescriptors (descriptor_is c.args.op) c.in-Ok.ensures.begins
    (empty_label_by m c.args.validator.now c.args.op c.args.relative_depth c.args.from.now c.args.to.now c.args.fails c.label_types-types.result.now c.requires (label_at m c.args.validator.now.opens c.args.relative_depth c.in-Some-jump.frame.0 c.in-Some-jump.frame.1 c.in-Some-jump.ensures ∙ ap (λ (vs : List ValueType). Some vs) (sym c.label_types-types.ensures)) c.in-None-split_label.ensures)

pub returns-then-not-is_subtype : goal.returns-then-not-is_subtype
returns-then-not-is_subtype g c =
    let m = g.R.WasmModuleResources.meaning c.args.resources.now in
    refused_row _ m c.args.validator.now (op.Descriptor c.args.op) CustomDescriptors (descriptor_is c.args.op) c.in-Ok.ensures.begins
    (carries_other_by m c.args.validator.now c.args.op c.args.relative_depth c.args.from.now c.args.to.now c.in-Ok-cast_of.cast.0 c.in-Ok-cast_of.cast.1 c.args.fails c.label_types-types.result.now c.in-Some-split_label.split.1.now c.in-Some-split_label.split.0 c.taken_and_left-taken.result.0 c.taken_and_left-taken.result.1 c.is_subtype.result c.requires c.in-Ok-cast_of.ensures (label_at m c.args.validator.now.opens c.args.relative_depth c.in-Some-jump.frame.0 c.in-Some-jump.frame.1 c.in-Some-jump.ensures ∙ ap (λ (vs : List ValueType). Some vs) (sym c.label_types-types.ensures)) c.in-Some-split_label.ensures (are_taken m c.args.validator.now c.args.from.now c.args.to.now c.in-Ok-cast_of.cast.0 c.in-Ok-cast_of.cast.1 c.args.fails c.taken_and_left-taken.result.0 c.taken_and_left-taken.result.1 c.in-Ok-cast_of.ensures c.taken_and_left-taken.ensures) c.is_subtype.ensures c.if-not-is_subtype.true)

pub returns : goal.returns
returns g c =
    let m = g.R.WasmModuleResources.meaning c.args.resources.now in
    exchanged_row (refused c.exchange_last.result) m c.args.validator.now c.exchange_last.new.validator (op.Descriptor c.args.op) CustomDescriptors (types_in m c.in-Some-split_label.split.1.now ++ types_in m (vals.Ref c.in-Ok-cast_of.cast.0 ∷ c.in-Some.by ∷ [])) (types_in m c.in-Some-split_label.split.1.now ++ type_in m c.taken_and_left-taken.result.1 ∷ []) (descriptor_is c.args.op) c.in-Ok.ensures.begins
    (branch_by_row m c.args.validator.now c.args.op c.args.relative_depth c.args.from.now c.args.to.now c.in-Ok-cast_of.cast.0 c.in-Ok-cast_of.cast.1 c.args.fails c.heap_type.result c.label_types-types.result.now c.in-Some-split_label.split.1.now c.in-Some-split_label.split.0 c.in-Some.by c.taken_and_left-taken.result.0 c.taken_and_left-taken.result.1 c.is_subtype.result c.requires c.in-Ok-cast_of.ensures c.heap_type.ensures.value c.in-Some.ensures (label_at m c.args.validator.now.opens c.args.relative_depth c.in-Some-jump.frame.0 c.in-Some-jump.frame.1 c.in-Some-jump.ensures ∙ ap (λ (vs : List ValueType). Some vs) (sym c.label_types-types.ensures)) c.in-Some-split_label.ensures (are_taken m c.args.validator.now c.args.from.now c.args.to.now c.in-Ok-cast_of.cast.0 c.in-Ok-cast_of.cast.1 c.args.fails c.taken_and_left-taken.result.0 c.taken_and_left-taken.result.1 c.in-Ok-cast_of.ensures c.taken_and_left-taken.ensures) c.is_subtype.ensures c.if-not-is_subtype.false)
    c.exchange_last.ensures.does (record { given = c.exchange_last.ensures.given; failed = c.exchange_last.ensures.failed; saved = c.exchange_last.ensures.saved })
