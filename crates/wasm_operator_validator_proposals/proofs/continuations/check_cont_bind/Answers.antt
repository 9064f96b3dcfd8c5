use Rattle.std.proofs.Common.{[], ◌∷◌, ◌++◌, false, true}
use Rattle.wasm_operators_enums.specs.Op as op
use Rattle.wasm_operator_validator_state.specs.Refusals.{refused, kind_of}
use Rattle.wasm_operator_validator_resources.specs.Meaning.{type_in}
use Rattle.wasm_operator_validator_state.specs.State.{types_in}
use Rattle.wasm_operator_validator_stacks.specs.determined.laws.Determined.{not_begun}
use Rattle.wasm_operators_immediates.specs.declared.proposal.Proposal.TheVariants.{StackSwitching}
use Rattle.wasm_operator_validator_proposals.proofs.Plain.{continuation_is, refused_row, exchanged_row}
use Rattle.wasm_operator_validator_proposals.proofs.Continuing.{continuation_index}
use Rattle.wasm_operator_validator_proposals.proofs.Handling.{cont_bind, no_bind_old, no_bind_new, bind_short, bind_unfit, bind_gives_other, bind_row}
use Rattle.wasm_operator_validator_proposals.proofs.continuations.check_cont_bind.Goals as goal

pub returns-in-Err : goal.returns-in-Err
returns-in-Err g c =
    let m = g.R.WasmModuleResources.meaning c.args.resources.now in
    not_begun c.in-Err.refusal m c.args.validator.now (cont_bind c.args.argument_index c.args.result_index) StackSwitching false (continuation_is (op.ContBind c.args.argument_index c.args.result_index)).plain c.in-Err.ensures.begins c.in-Err.ensures.stops

pub returns-in-Err-continuation_at : goal.returns-in-Err-continuation_at
returns-in-Err-continuation_at g c =
    let m = g.R.WasmModuleResources.meaning c.args.resources.now in
    refused_row _ m c.args.validator.now (cont_bind c.args.argument_index c.args.result_index) StackSwitching (continuation_is (op.ContBind c.args.argument_index c.args.result_index)) c.in-Ok.ensures.begins
    (no_bind_old m c.args.validator.now c.args.argument_index c.args.result_index c.in-Err-continuation_at.ensures)

pub returns-in-Err-continuation_at-2 : goal.returns-in-Err-continuation_at-2
returns-in-Err-continuation_at-2 g c =
    let m = g.R.WasmModuleResources.meaning c.args.resources.now in
    refused_row _ m c.args.validator.now (cont_bind c.args.argument_index c.args.result_index) StackSwitching (continuation_is (op.ContBind c.args.argument_index c.args.result_index)) c.in-Ok.ensures.begins
    (no_bind_new m c.args.validator.now c.args.argument_index c.args.result_index c.in-Err-continuation_at-2.ensures)

pub returns-in-None : goal.returns-in-None
returns-in-None g c =
    let m = g.R.WasmModuleResources.meaning c.args.resources.now in
    refused_row _ m c.args.validator.now (cont_bind c.args.argument_index c.args.result_index) StackSwitching (continuation_is (op.ContBind c.args.argument_index c.args.result_index)) c.in-Ok.ensures.begins
    (bind_short m c.args.validator.now c.args.argument_index c.args.result_index c.in-Ok-continuation_at.found.0.now c.in-Ok-continuation_at.found.1.now c.in-Ok-continuation_at-2.found.0.now c.in-Ok-continuation_at-2.found.1.now c.in-Ok-continuation_at.ensures c.in-Ok-continuation_at-2.ensures c.in-None.ensures)

pub returns-then-not-are_below : goal.returns-then-not-are_below
returns-then-not-are_below g c =
    let m = g.R.WasmModuleResources.meaning c.args.resources.now in
    refused_row _ m c.args.validator.now (cont_bind c.args.argument_index c.args.result_index) StackSwitching (continuation_is (op.ContBind c.args.argument_index c.args.result_index)) c.in-Ok.ensures.begins
    (bind_unfit m c.args.validator.now c.args.argument_index c.args.result_index c.in-Ok-continuation_at.found.0.now c.in-Ok-continuation_at.found.1.now c.in-Ok-continuation_at-2.found.0.now c.in-Ok-continuation_at-2.found.1.now c.in-Some.split.0.now c.in-Some.split.1.now c.are_below.result c.in-Ok-continuation_at.ensures c.in-Ok-continuation_at-2.ensures c.in-Some.ensures c.are_below.ensures c.if-not-are_below.true)

pub returns-then-not-are_below-2 : goal.returns-then-not-are_below-2
returns-then-not-are_below-2 g c =
    let m = g.R.WasmModuleResources.meaning c.args.resources.now in
    refused_row _ m c.args.validator.now (cont_bind c.args.argument_index c.args.result_index) StackSwitching (continuation_is (op.ContBind c.args.argument_index c.args.result_index)) c.in-Ok.ensures.begins
    (bind_gives_other m c.args.validator.now c.args.argument_index c.args.result_index c.in-Ok-continuation_at.found.0.now c.in-Ok-continuation_at.found.1.now c.in-Ok-continuation_at-2.found.0.now c.in-Ok-continuation_at-2.found.1.now c.are_below-2.result c.in-Ok-continuation_at.ensures c.in-Ok-continuation_at-2.ensures c.are_below-2.ensures c.if-not-are_below-2.true)

pub reference_at-old-requires : goal.reference_at-old-requires
reference_at-old-requires g c =
    let m = g.R.WasmModuleResources.meaning c.args.resources.now in
    continuation_index m c.args.validator.now c.args.argument_index c.in-Ok-continuation_at.found.0.now c.in-Ok-continuation_at.found.1.now c.in-Ok-continuation_at.ensures

pub reference_at-new-requires : goal.reference_at-new-requires
reference_at-new-requires g c =
    let m = g.R.WasmModuleResources.meaning c.args.resources.now in
    continuation_index m c.args.validator.now c.args.result_index c.in-Ok-continuation_at-2.found.0.now c.in-Ok-continuation_at-2.found.1.now c.in-Ok-continuation_at-2.ensures

pub returns : goal.returns
returns g c =
    let m = g.R.WasmModuleResources.meaning c.args.resources.now in
    exchanged_row (refused c.exchange_above.result) m c.args.validator.now c.exchange_above.new.validator (cont_bind c.args.argument_index c.args.result_index) StackSwitching (types_in m c.in-Some.split.0.now ++ types_in m (c.reference_at-old.result ∷ [])) (types_in m (c.reference_at-new.result ∷ [])) (continuation_is (op.ContBind c.args.argument_index c.args.result_index)) c.in-Ok.ensures.begins
    (bind_row m c.args.validator.now c.args.argument_index c.args.result_index c.in-Ok-continuation_at.found.0.now c.in-Ok-continuation_at.found.1.now c.in-Ok-continuation_at-2.found.0.now c.in-Ok-continuation_at-2.found.1.now c.in-Some.split.0.now c.in-Some.split.1.now c.reference_at-old.result c.reference_at-new.result c.in-Ok-continuation_at.ensures c.in-Ok-continuation_at-2.ensures c.in-Some.ensures (c.are_below.ensures.0 c.if-not-are_below.false) (c.are_below-2.ensures.0 c.if-not-are_below-2.false) c.reference_at-old.ensures c.reference_at-new.ensures)
    c.exchange_above.ensures.does (record { given = c.exchange_above.ensures.given; failed = c.exchange_above.ensures.failed; saved = c.exchange_above.ensures.saved })
