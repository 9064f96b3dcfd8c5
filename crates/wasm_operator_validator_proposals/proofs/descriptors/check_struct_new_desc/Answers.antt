use Rattle.std.proofs.Common.{[], ◌∷◌, ◌++◌, false, true}
use Rattle.wasm_operators_enums.specs.declared.gc.DescriptorOperator.TheVariants as descriptor
use Rattle.wasm_operators_enums.specs.Op as op
use Rattle.wasm_operators_immediates.specs.declared.proposal.Proposal.TheVariants.{CustomDescriptors}
use Rattle.wasm_operator_validator_state.specs.Refusals.{refused, kind_of}
use Rattle.wasm_operator_validator_resources.specs.Meaning.{type_in}
use Rattle.wasm_operator_validator_state.specs.State.{types_in}
use Rattle.wasm_operator_validator_stacks.specs.determined.laws.Determined.{not_begun}
use Rattle.wasm_operator_validator_proposals.proofs.Plain.{descriptor_is, refused_row, exchanged_row}
use Rattle.wasm_operator_validator_objects.specs.Found.{unpacked_fields}
use Rattle.wasm_operator_validator_objects.proofs.Looking.{struct_index}
use Rattle.wasm_operator_validator_proposals.proofs.Describing.{new_desc, no_struct_desc, no_desc, new_desc_row}
use Rattle.wasm_operator_validator_proposals.proofs.descriptors.check_struct_new_desc.Goals as goal

pub returns-in-Err : goal.returns-in-Err
returns-in-Err g c =
    let m = g.R.WasmModuleResources.meaning c.args.resources.now in
    not_begun c.in-Err.refusal m c.args.validator.now (new_desc c.args.type_index) CustomDescriptors false (descriptor_is (descriptor.StructNewDesc c.args.type_index)).plain c.in-Err.ensures.begins c.in-Err.ensures.stops

pub returns-in-Err-struct_at : goal.returns-in-Err-struct_at
returns-in-Err-struct_at g c =
    let m = g.R.WasmModuleResources.meaning c.args.resources.now in
    refused_row _ m c.args.validator.now (new_desc c.args.type_index) CustomDescriptors (descriptor_is (descriptor.StructNewDesc c.args.type_index)) c.in-Ok.ensures.begins
    (no_struct_desc m c.args.validator.now c.args.type_index c.in-Err-struct_at.ensures)

pub returns-in-Err-descriptor_at : goal.returns-in-Err-descriptor_at
returns-in-Err-descriptor_at g c =
    let m = g.R.WasmModuleResources.meaning c.args.resources.now in
    refused_row _ m c.args.validator.now (new_desc c.args.type_index) CustomDescriptors (descriptor_is (descriptor.StructNewDesc c.args.type_index)) c.in-Ok.ensures.begins
    (no_desc m c.args.validator.now c.args.type_index c.in-Err-descriptor_at.ensures)

pub allocated-made-requires : goal.allocated-made-requires
allocated-made-requires g c =
    let m = g.R.WasmModuleResources.meaning c.args.resources.now in
    struct_index m c.args.validator.now c.args.type_index c.in-Ok-struct_at.found.0.now c.in-Ok-struct_at.found.1 c.in-Ok-struct_at.ensures

pub returns : goal.returns
returns g c =
    let m = g.R.WasmModuleResources.meaning c.args.resources.now in
    exchanged_row (refused c.exchange_fields.result) m c.args.validator.now c.exchange_fields.new.validator (new_desc c.args.type_index) CustomDescriptors (types_in m (unpacked_fields c.in-Ok-struct_at.found.0.now) ++ type_in m c.reference_to-by.result ∷ []) (types_in m (c.allocated-made.result ∷ [])) (descriptor_is (descriptor.StructNewDesc c.args.type_index)) c.in-Ok.ensures.begins
    (new_desc_row m c.args.validator.now c.args.type_index c.in-Ok-struct_at.found.0.now c.in-Ok-struct_at.found.1 c.in-Ok-descriptor_at.descriptor c.reference_to-by.result c.allocated-made.result c.in-Ok-struct_at.ensures c.in-Ok-descriptor_at.ensures (c.reference_to-by.ensures m) c.allocated-made.ensures)
    c.exchange_fields.ensures.does (record { given = c.exchange_fields.ensures.given; failed = c.exchange_fields.ensures.failed; saved = c.exchange_fields.ensures.saved })
