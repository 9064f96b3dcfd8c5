use Rattle.std.proofs.Common.{[], ◌∷◌, ◌++◌, false, true}
use Rattle.wasm_operators_enums.specs.declared.gc.DescriptorOperator.TheVariants as descriptor
use Rattle.wasm_operators_enums.specs.Op as op
use Rattle.wasm_operators_immediates.specs.declared.proposal.Proposal.TheVariants.{CustomDescriptors}
use Rattle.wasm_operator_validator_state.specs.Refusals.{refused, kind_of}
use Rattle.wasm_operator_validator_resources.specs.Meaning.{type_in}
use Rattle.wasm_operator_validator_state.specs.State.{types_in}
use Rattle.wasm_operator_validator_stacks.specs.determined.laws.Determined.{not_begun}
use Rattle.wasm_operator_validator_proposals.proofs.Plain.{descriptor_is, refused_row, exchanged_row}
use Rattle.wasm_operator_validator_objects.proofs.Looking.{struct_index}
use Rattle.wasm_operator_validator_proposals.proofs.Describing.{new_default_desc, no_struct_default, no_default_desc, not_defaultable, new_default_row}
use Rattle.wasm_operator_validator_proposals.proofs.descriptors.check_struct_new_default_desc.Goals as goal

pub returns-in-Err : goal.returns-in-Err
returns-in-Err g c =
    let m = g.R.WasmModuleResources.meaning c.args.resources.now in
    not_begun c.in-Err.refusal m c.args.validator.now (new_default_desc c.args.type_index) CustomDescriptors false (descriptor_is (descriptor.StructNewDefaultDesc c.args.type_index)).plain c.in-Err.ensures.begins c.in-Err.ensures.stops

pub returns-in-Err-struct_at : goal.returns-in-Err-struct_at
returns-in-Err-struct_at g c =
    let m = g.R.WasmModuleResources.meaning c.args.resources.now in
    refused_row _ m c.args.validator.now (new_default_desc c.args.type_index) CustomDescriptors (descriptor_is (descriptor.StructNewDefaultDesc c.args.type_index)) c.in-Ok.ensures.begins
    (no_struct_default m c.args.validator.now c.args.type_index c.in-Err-struct_at.ensures)

pub returns-in-Err-descriptor_at : goal.returns-in-Err-descriptor_at
returns-in-Err-descriptor_at g c =
    let m = g.R.WasmModuleResources.meaning c.args.resources.now in
    refused_row _ m c.args.validator.now (new_default_desc c.args.type_index) CustomDescriptors (descriptor_is (descriptor.StructNewDefaultDesc c.args.type_index)) c.in-Ok.ensures.begins
    (no_default_desc m c.args.validator.now c.args.type_index c.in-Err-descriptor_at.ensures)

pub returns-then-not-are_defaultable : goal.returns-then-not-are_defaultable
returns-then-not-are_defaultable g c =
    let m = g.R.WasmModuleResources.meaning c.args.resources.now in
    refused_row _ m c.args.validator.now (new_default_desc c.args.type_index) CustomDescriptors (descriptor_is (descriptor.StructNewDefaultDesc c.args.type_index)) c.in-Ok.ensures.begins
    (not_defaultable m c.args.validator.now c.args.type_index c.in-Ok-struct_at.found.0.now c.in-Ok-struct_at.found.1 c.are_defaultable.result c.in-Ok-struct_at.ensures c.are_defaultable.ensures c.if-not-are_defaultable.true)

pub allocated-made-requires : goal.allocated-made-requires
allocated-made-requires g c =
    let m = g.R.WasmModuleResources.meaning c.args.resources.now in
    struct_index m c.args.validator.now c.args.type_index c.in-Ok-struct_at.found.0.now c.in-Ok-struct_at.found.1 c.in-Ok-struct_at.ensures

pub returns : goal.returns
returns g c =
    let m = g.R.WasmModuleResources.meaning c.args.resources.now in
    exchanged_row (refused c.exchange.result) m c.args.validator.now c.exchange.new.self (new_default_desc c.args.type_index) CustomDescriptors (types_in m (c.reference_to-by.result ∷ [])) (types_in m (c.allocated-made.result ∷ [])) (descriptor_is (descriptor.StructNewDefaultDesc c.args.type_index)) c.in-Ok.ensures.begins
    (new_default_row m c.args.validator.now c.args.type_index c.in-Ok-struct_at.found.0.now c.in-Ok-struct_at.found.1 c.are_defaultable.result c.in-Ok-descriptor_at.descriptor c.reference_to-by.result c.allocated-made.result c.in-Ok-struct_at.ensures c.in-Ok-descriptor_at.ensures c.are_defaultable.ensures c.if-not-are_defaultable.false (c.reference_to-by.ensures m) c.allocated-made.ensures)
    c.exchange.ensures.does (record { given = c.exchange.ensures.given; failed = c.exchange.ensures.failed; saved = c.exchange.ensures.saved })
