use Rattle.std.proofs.Common.{[], ◌∷◌, ◌++◌, false, true}
use Rattle.wasm_operators_enums.specs.Op as op
use Rattle.wasm_operator_validator_state.specs.Refusals.{refused, kind_of}
use Rattle.wasm_operator_validator_resources.specs.Meaning.{type_in}
use Rattle.wasm_operator_validator_state.specs.State.{types_in}
use Rattle.wasm_operator_validator_stacks.specs.determined.laws.Determined.{not_begun}
use Rattle.wasm_operators_immediates.specs.declared.proposal.Proposal.TheVariants.{StackSwitching}
use Rattle.wasm_operator_validator_proposals.proofs.Plain.{continuation_is, refused_row, exchanged_row}
use Rattle.wasm_operator_validator_proposals.proofs.Handling.{suspend, no_suspend, suspend_row}
use Rattle.wasm_operator_validator_proposals.proofs.continuations.check_suspend.Goals as goal

pub returns-in-Err : goal.returns-in-Err
returns-in-Err g c =
    let m = g.R.WasmModuleResources.meaning c.args.resources.now in
    not_begun c.in-Err.refusal m c.args.validator.now (suspend c.args.tag_index) StackSwitching false (continuation_is (op.Suspend c.args.tag_index)).plain c.in-Err.ensures.begins c.in-Err.ensures.stops

pub returns-in-Err-tag_at : goal.returns-in-Err-tag_at
returns-in-Err-tag_at g c =
    let m = g.R.WasmModuleResources.meaning c.args.resources.now in
    refused_row _ m c.args.validator.now (suspend c.args.tag_index) StackSwitching (continuation_is (op.Suspend c.args.tag_index)) c.in-Ok.ensures.begins
    (no_suspend m c.args.validator.now c.args.tag_index c.in-Err-tag_at.ensures)

pub returns : goal.returns
returns g c =
    let m = g.R.WasmModuleResources.meaning c.args.resources.now in
    exchanged_row (refused c.exchange.result) m c.args.validator.now c.exchange.new.self (suspend c.args.tag_index) StackSwitching (types_in m c.in-Ok-tag_at.tag.now.params) (types_in m c.in-Ok-tag_at.tag.now.results) (continuation_is (op.Suspend c.args.tag_index)) c.in-Ok.ensures.begins
    (suspend_row m c.args.validator.now c.args.tag_index c.in-Ok-tag_at.tag.now.params c.in-Ok-tag_at.tag.now.results c.in-Ok-tag_at.ensures)
    (rw (c.params.ensures, c.results.ensures) at c.exchange.ensures.does) (record { given = c.exchange.ensures.given; failed = c.exchange.ensures.failed; saved = c.exchange.ensures.saved })
