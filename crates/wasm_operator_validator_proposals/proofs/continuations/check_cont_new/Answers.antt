use Rattle.std.proofs.Common.{[], ◌∷◌, ◌++◌, false, true}
use Rattle.wasm_operators_enums.specs.Op as op
use Rattle.wasm_operator_validator_state.specs.Refusals.{refused, kind_of}
use Rattle.wasm_operator_validator_resources.specs.Meaning.{type_in}
use Rattle.wasm_operator_validator_state.specs.State.{types_in}
use Rattle.wasm_operator_validator_stacks.specs.determined.laws.Determined.{not_begun}
use Rattle.wasm_operators_immediates.specs.declared.proposal.Proposal.TheVariants.{StackSwitching}
use Rattle.wasm_operator_validator_proposals.proofs.Plain.{continuation_is, refused_row, exchanged_row}
use Rattle.wasm_operator_validator_proposals.proofs.Continuing.{continues_index}
use Rattle.wasm_operator_validator_proposals.proofs.Handling.{cont_new, no_cont_new, new_of_no_function, new_row}
use Rattle.wasm_operator_validator_proposals.specs.Named.{signature}
use Rattle.wasm_operator_validator_proposals.proofs.continuations.check_cont_new.Goals as goal

pub returns-in-Err : goal.returns-in-Err
returns-in-Err g c =
    let m = g.R.WasmModuleResources.meaning c.args.resources.now in
    not_begun c.in-Err.refusal m c.args.validator.now (cont_new c.args.type_index) StackSwitching false (continuation_is (op.ContNew c.args.type_index)).plain c.in-Err.ensures.begins c.in-Err.ensures.stops

pub returns-in-Err-continued_at : goal.returns-in-Err-continued_at
returns-in-Err-continued_at g c =
    let m = g.R.WasmModuleResources.meaning c.args.resources.now in
    refused_row _ m c.args.validator.now (cont_new c.args.type_index) StackSwitching (continuation_is (op.ContNew c.args.type_index)) c.in-Ok.ensures.begins
    (no_cont_new m c.args.validator.now c.args.type_index c.in-Err-continued_at.ensures)

pub returns-in-None : goal.returns-in-None
returns-in-None g c =
    let m = g.R.WasmModuleResources.meaning c.args.resources.now in
    refused_row _ m c.args.validator.now (cont_new c.args.type_index) StackSwitching (continuation_is (op.ContNew c.args.type_index)) c.in-Ok.ensures.begins
    (new_of_no_function m c.args.validator.now c.args.type_index c.in-Ok-continued_at.function c.in-Ok-continued_at.ensures (rw c.unpack.ensures.value at c.in-None.ensures))

pub reference_at-made-requires : goal.reference_at-made-requires
reference_at-made-requires g c =
    let m = g.R.WasmModuleResources.meaning c.args.resources.now in
    continues_index m c.args.validator.now c.args.type_index c.in-Ok-continued_at.function c.in-Ok-continued_at.ensures

pub returns : goal.returns
returns g c =
    let m = g.R.WasmModuleResources.meaning c.args.resources.now in
    exchanged_row (refused c.exchange.result) m c.args.validator.now c.exchange.new.self (cont_new c.args.type_index) StackSwitching (types_in m (c.reference_to-of.result ∷ [])) (types_in m (c.reference_at-made.result ∷ [])) (continuation_is (op.ContNew c.args.type_index)) c.in-Ok.ensures.begins
    (new_row m c.args.validator.now c.args.type_index c.in-Ok-continued_at.function (signature m c.in-Some.field-0.0.now c.in-Some.field-0.1.now) c.reference_to-of.result c.reference_at-made.result c.in-Ok-continued_at.ensures (rw c.unpack.ensures.value at c.in-Some.ensures) (c.reference_to-of.ensures m) c.reference_at-made.ensures)
    c.exchange.ensures.does (record { given = c.exchange.ensures.given; failed = c.exchange.ensures.failed; saved = c.exchange.ensures.saved })
