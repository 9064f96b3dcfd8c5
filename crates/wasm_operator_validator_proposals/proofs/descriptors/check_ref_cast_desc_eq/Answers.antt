use Rattle.std.proofs.Common.{[], ◌∷◌, ◌++◌, false, true}
use Rattle.wasm_operators_enums.specs.declared.gc.DescriptorOperator.TheVariants as descriptor
use Rattle.wasm_operators_enums.specs.Op as op
use Rattle.wasm_operators_immediates.specs.declared.proposal.Proposal.TheVariants.{CustomDescriptors}
use Rattle.wasm_operator_validator_state.specs.Refusals.{refused, kind_of}
use Rattle.wasm_operator_validator_resources.specs.Meaning.{type_in}
use Rattle.wasm_operator_validator_state.specs.State.{types_in}
use Rattle.wasm_operator_validator_stacks.specs.determined.laws.Determined.{not_begun}
use Rattle.wasm_operator_validator_proposals.proofs.Plain.{descriptor_is, refused_row, exchanged_row}
use Rattle.wasm_types.specs.values.declared.value.ValType.TheVariants as vals
use Rattle.wasm_operator_validator_resources.specs.Meaning.{heap_in}
use Rattle.wasm_operator_validator_proposals.proofs.Describing.{cast_nothing, cast_continuation, cast_undescribed, cast_row}
use Rattle.wasm_operator_validator_proposals.proofs.descriptors.check_ref_cast_desc_eq.Goals as goal

pub returns-in-Err : goal.returns-in-Err
returns-in-Err g c =
    let m = g.R.WasmModuleResources.meaning c.args.resources.now in
    not_begun c.in-Err.refusal m c.args.validator.now (op.Descriptor c.args.op) CustomDescriptors false (descriptor_is c.args.op).plain c.in-Err.ensures.begins c.in-Err.ensures.stops

pub returns-in-Err-heap_at : goal.returns-in-Err-heap_at
returns-in-Err-heap_at g c =
    let m = g.R.WasmModuleResources.meaning c.args.resources.now in
    refused_row _ m c.args.validator.now (op.Descriptor c.args.op) CustomDescriptors (descriptor_is c.args.op) c.in-Ok.ensures.begins
    (cast_nothing m c.args.validator.now c.args.op c.args.heap_type.now c.args.nullable c.requires c.in-Err-heap_at.ensures)

pub returns-in-None : goal.returns-in-None
returns-in-None g c =
    let m = g.R.WasmModuleResources.meaning c.args.resources.now in
    refused_row _ m c.args.validator.now (op.Descriptor c.args.op) CustomDescriptors (descriptor_is c.args.op) c.in-Ok.ensures.begins
    (cast_continuation m c.args.validator.now c.args.op c.args.heap_type.now c.args.nullable (heap_in m c.in-Ok-heap_at.named.heap) c.requires c.in-Ok-heap_at.ensures.1 c.in-None.ensures)

pub returns-in-None-described_by : goal.returns-in-None-described_by
returns-in-None-described_by g c =
    let m = g.R.WasmModuleResources.meaning c.args.resources.now in
    refused_row _ m c.args.validator.now (op.Descriptor c.args.op) CustomDescriptors (descriptor_is c.args.op) c.in-Ok.ensures.begins
    (cast_undescribed m c.args.validator.now c.args.op c.args.heap_type.now c.args.nullable (heap_in m c.in-Ok-heap_at.named.heap) c.requires c.in-Ok-heap_at.ensures.1 (rw c.heap_type.ensures.value at c.in-None-described_by.ensures))

pub returns : goal.returns
returns g c =
    let m = g.R.WasmModuleResources.meaning c.args.resources.now in
    exchanged_row (refused c.exchange.result) m c.args.validator.now c.exchange.new.self (op.Descriptor c.args.op) CustomDescriptors (types_in m (c.in-Some.top ∷ c.in-Some-described_by.by ∷ [])) (types_in m (vals.Ref c.in-Ok-heap_at.named ∷ [])) (descriptor_is c.args.op) c.in-Ok.ensures.begins
    (cast_row m c.args.validator.now c.args.op c.args.heap_type.now c.heap_type.result c.args.nullable c.in-Ok-heap_at.named c.in-Some.top c.in-Some-described_by.by c.requires c.in-Ok-heap_at.ensures c.in-Some.ensures c.heap_type.ensures.value c.in-Some-described_by.ensures)
    c.exchange.ensures.does (record { given = c.exchange.ensures.given; failed = c.exchange.ensures.failed; saved = c.exchange.ensures.saved })
