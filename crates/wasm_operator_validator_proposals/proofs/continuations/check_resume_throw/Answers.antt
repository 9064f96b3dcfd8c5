use Rattle.std.proofs.Common.{[], ◌∷◌, ◌++◌, false, true}
use Rattle.wasm_operators_enums.specs.Op as op
use Rattle.wasm_operator_validator_state.specs.Refusals.{refused, kind_of}
use Rattle.wasm_operator_validator_resources.specs.Meaning.{type_in}
use Rattle.wasm_operator_validator_state.specs.State.{types_in}
use Rattle.wasm_operator_validator_stacks.specs.determined.laws.Determined.{not_begun}
use Rattle.wasm_operators_immediates.specs.declared.proposal.Proposal.TheVariants.{StackSwitching}
use Rattle.wasm_operator_validator_proposals.proofs.Plain.{continuation_is, refused_row, exchanged_row}
use Rattle.wasm_operator_validator_proposals.proofs.Continuing.{continuation_index}
use Rattle.wasm_operator_validator_proposals.proofs.Handling.{resume_throw, no_resume_throw, resume_throw_untagged, resume_throw_unhandled, resume_throw_row}
use Rattle.wasm_operator_validator_proposals.proofs.continuations.check_resume_throw.Goals as goal

pub returns-in-Err : goal.returns-in-Err
returns-in-Err g c =
    let m = g.R.WasmModuleResources.meaning c.args.resources.now in
    not_begun c.in-Err.refusal m c.args.validator.now (resume_throw c.args.type_index c.args.tag_index c.args.table.now.handlers.items) StackSwitching false (continuation_is (op.ResumeThrow c.args.type_index c.args.tag_index c.args.table.now.handlers.items)).plain c.in-Err.ensures.begins c.in-Err.ensures.stops

pub returns-in-Err-continuation_at : goal.returns-in-Err-continuation_at
returns-in-Err-continuation_at g c =
    let m = g.R.WasmModuleResources.meaning c.args.resources.now in
    refused_row _ m c.args.validator.now (resume_throw c.args.type_index c.args.tag_index c.args.table.now.handlers.items) StackSwitching (continuation_is (op.ResumeThrow c.args.type_index c.args.tag_index c.args.table.now.handlers.items)) c.in-Ok.ensures.begins
    (no_resume_throw m c.args.validator.now c.args.type_index c.args.tag_index c.args.table.now.handlers.items c.in-Err-continuation_at.ensures)

pub returns-in-Err-exception_tag : goal.returns-in-Err-exception_tag
returns-in-Err-exception_tag g c =
    let m = g.R.WasmModuleResources.meaning c.args.resources.now in
    refused_row _ m c.args.validator.now (resume_throw c.args.type_index c.args.tag_index c.args.table.now.handlers.items) StackSwitching (continuation_is (op.ResumeThrow c.args.type_index c.args.tag_index c.args.table.now.handlers.items)) c.in-Ok.ensures.begins
    (resume_throw_untagged m c.args.validator.now c.args.type_index c.args.tag_index c.args.table.now.handlers.items c.in-Err-exception_tag.ensures)

pub returns-in-Err-check_handlers : goal.returns-in-Err-check_handlers
returns-in-Err-check_handlers g c =
    let m = g.R.WasmModuleResources.meaning c.args.resources.now in
    refused_row _ m c.args.validator.now (resume_throw c.args.type_index c.args.tag_index c.args.table.now.handlers.items) StackSwitching (continuation_is (op.ResumeThrow c.args.type_index c.args.tag_index c.args.table.now.handlers.items)) c.in-Ok.ensures.begins
    (resume_throw_unhandled m c.args.validator.now c.args.type_index c.args.tag_index c.args.table.now.handlers.items c.in-Ok-continuation_at.found.0.now c.in-Ok-continuation_at.found.1.now c.in-Ok-continuation_at.ensures (rw c.as_slice.ensures.value at c.in-Err-check_handlers.ensures))

pub reference_at-resumed-requires : goal.reference_at-resumed-requires
reference_at-resumed-requires g c =
    let m = g.R.WasmModuleResources.meaning c.args.resources.now in
    continuation_index m c.args.validator.now c.args.type_index c.in-Ok-continuation_at.found.0.now c.in-Ok-continuation_at.found.1.now c.in-Ok-continuation_at.ensures

pub returns : goal.returns
returns g c =
    let m = g.R.WasmModuleResources.meaning c.args.resources.now in
    exchanged_row (refused c.exchange_above.result) m c.args.validator.now c.exchange_above.new.validator (resume_throw c.args.type_index c.args.tag_index c.args.table.now.handlers.items) StackSwitching (types_in m c.in-Ok-exception_tag.tag.now.params ++ types_in m (c.reference_at-resumed.result ∷ [])) (types_in m c.in-Ok-continuation_at.found.1.now) (continuation_is (op.ResumeThrow c.args.type_index c.args.tag_index c.args.table.now.handlers.items)) c.in-Ok.ensures.begins
    (resume_throw_row m c.args.validator.now c.args.type_index c.args.tag_index c.args.table.now.handlers.items c.in-Ok-continuation_at.found.0.now c.in-Ok-continuation_at.found.1.now c.in-Ok-exception_tag.tag.now.params c.reference_at-resumed.result c.in-Ok-continuation_at.ensures c.in-Ok-exception_tag.ensures (rw c.as_slice.ensures.value at c.in-Ok-check_handlers.ensures) c.reference_at-resumed.ensures)
    (rw c.params.ensures at c.exchange_above.ensures.does) (record { given = c.exchange_above.ensures.given; failed = c.exchange_above.ensures.failed; saved = c.exchange_above.ensures.saved })
