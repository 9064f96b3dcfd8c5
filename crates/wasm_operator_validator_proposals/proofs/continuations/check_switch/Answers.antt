use Rattle.std.proofs.Common.{[], ◌∷◌, ◌++◌, false, true}
use Rattle.wasm_operators_enums.specs.Op as op
use Rattle.wasm_operator_validator_state.specs.Refusals.{refused, kind_of}
use Rattle.wasm_operator_validator_resources.specs.Meaning.{type_in}
use Rattle.wasm_operator_validator_state.specs.State.{types_in}
use Rattle.wasm_operator_validator_stacks.specs.determined.laws.Determined.{not_begun}
use Rattle.wasm_operators_immediates.specs.declared.proposal.Proposal.TheVariants.{StackSwitching}
use Rattle.wasm_operator_validator_proposals.proofs.Plain.{continuation_is, refused_row, exchanged_row}
use Rattle.wasm_operator_validator_proposals.proofs.Continuing.{continuation_index}
use Rattle.std.proofs.Common.{◌∙◌, sym, length}
use Rattle.std.proofs.lemmas.Bool.{eqb-true}
use Rattle.wasm_operator_validator_proposals.proofs.Handling.{emptied, not_empty, switch, no_switch, switch_untagged, switch_tag_carries, switch_nothing, switch_no_left, switch_gives_other, switch_left_gives_other, switch_row}
use Rattle.wasm_operator_validator_proposals.proofs.continuations.check_switch.Goals as goal

pub returns-in-Err : goal.returns-in-Err
returns-in-Err g c =
    let m = g.R.WasmModuleResources.meaning c.args.resources.now in
    not_begun c.in-Err.refusal m c.args.validator.now (switch c.args.type_index c.args.tag_index) StackSwitching false (continuation_is (op.Switch c.args.type_index c.args.tag_index)).plain c.in-Err.ensures.begins c.in-Err.ensures.stops

pub returns-in-Err-continuation_at : goal.returns-in-Err-continuation_at
returns-in-Err-continuation_at g c =
    let m = g.R.WasmModuleResources.meaning c.args.resources.now in
    refused_row _ m c.args.validator.now (switch c.args.type_index c.args.tag_index) StackSwitching (continuation_is (op.Switch c.args.type_index c.args.tag_index)) c.in-Ok.ensures.begins
    (no_switch m c.args.validator.now c.args.type_index c.args.tag_index c.in-Err-continuation_at.ensures)

pub returns-in-None : goal.returns-in-None
returns-in-None g c =
    let m = g.R.WasmModuleResources.meaning c.args.resources.now in
    refused_row _ m c.args.validator.now (switch c.args.type_index c.args.tag_index) StackSwitching (continuation_is (op.Switch c.args.type_index c.args.tag_index)) c.in-Ok.ensures.begins
    (switch_nothing m c.args.validator.now c.args.type_index c.args.tag_index c.in-Ok-continuation_at.found.0.now c.in-Ok-continuation_at.found.1.now c.in-Ok-continuation_at.ensures c.in-None.ensures)

pub returns-in-None-continuation_in : goal.returns-in-None-continuation_in
returns-in-None-continuation_in g c =
    let m = g.R.WasmModuleResources.meaning c.args.resources.now in
    refused_row _ m c.args.validator.now (switch c.args.type_index c.args.tag_index) StackSwitching (continuation_is (op.Switch c.args.type_index c.args.tag_index)) c.in-Ok.ensures.begins
    (switch_no_left m c.args.validator.now c.args.type_index c.args.tag_index c.in-Ok-continuation_at.found.0.now c.in-Ok-continuation_at.found.1.now c.in-Some.split.1.now c.in-Some.split.0 c.in-Ok-continuation_at.ensures c.in-Some.ensures c.in-None-continuation_in.ensures)

pub returns-in-Err-tag_at : goal.returns-in-Err-tag_at
returns-in-Err-tag_at g c =
    let m = g.R.WasmModuleResources.meaning c.args.resources.now in
    refused_row _ m c.args.validator.now (switch c.args.type_index c.args.tag_index) StackSwitching (continuation_is (op.Switch c.args.type_index c.args.tag_index)) c.in-Ok.ensures.begins
    (switch_untagged m c.args.validator.now c.args.type_index c.args.tag_index c.in-Err-tag_at.ensures)

pub returns-then-not-is_empty : goal.returns-then-not-is_empty
returns-then-not-is_empty g c =
    let m = g.R.WasmModuleResources.meaning c.args.resources.now in
    refused_row _ m c.args.validator.now (switch c.args.type_index c.args.tag_index) StackSwitching (continuation_is (op.Switch c.args.type_index c.args.tag_index)) c.in-Ok.ensures.begins
    (switch_tag_carries m c.args.validator.now c.args.type_index c.args.tag_index c.in-Ok-tag_at.tag.now.params c.in-Ok-tag_at.tag.now.results c.in-Ok-tag_at.ensures (not_empty c.in-Ok-tag_at.tag.now.params c.is_empty.result c.params.ensures c.is_empty.ensures c.if-not-is_empty.true))

pub returns-then-not-are_below : goal.returns-then-not-are_below
returns-then-not-are_below g c =
    let m = g.R.WasmModuleResources.meaning c.args.resources.now in
    refused_row _ m c.args.validator.now (switch c.args.type_index c.args.tag_index) StackSwitching (continuation_is (op.Switch c.args.type_index c.args.tag_index)) c.in-Ok.ensures.begins
    (switch_gives_other m c.args.validator.now c.args.type_index c.args.tag_index c.in-Ok-continuation_at.found.0.now c.in-Ok-continuation_at.found.1.now c.in-Ok-tag_at.tag.now.params c.in-Ok-tag_at.tag.now.results c.are_below.result c.in-Ok-continuation_at.ensures c.in-Ok-tag_at.ensures (rw c.results.ensures at c.are_below.ensures) c.if-not-are_below.true)

pub returns-then-not-are_below-2 : goal.returns-then-not-are_below-2
returns-then-not-are_below-2 g c =
    let m = g.R.WasmModuleResources.meaning c.args.resources.now in
    refused_row _ m c.args.validator.now (switch c.args.type_index c.args.tag_index) StackSwitching (continuation_is (op.Switch c.args.type_index c.args.tag_index)) c.in-Ok.ensures.begins
    (switch_left_gives_other m c.args.validator.now c.args.type_index c.args.tag_index c.in-Ok-continuation_at.found.0.now c.in-Ok-continuation_at.found.1.now c.in-Some.split.1.now c.in-Some.split.0 c.in-Some-continuation_in.found.0.now c.in-Some-continuation_in.found.1.now c.in-Ok-tag_at.tag.now.params c.in-Ok-tag_at.tag.now.results c.are_below-2.result c.in-Ok-continuation_at.ensures c.in-Some.ensures c.in-Some-continuation_in.ensures c.in-Ok-tag_at.ensures (rw c.results-2.ensures at c.are_below-2.ensures) c.if-not-are_below-2.true)

pub reference_at-resumed-requires : goal.reference_at-resumed-requires
reference_at-resumed-requires g c =
    let m = g.R.WasmModuleResources.meaning c.args.resources.now in
    continuation_index m c.args.validator.now c.args.type_index c.in-Ok-continuation_at.found.0.now c.in-Ok-continuation_at.found.1.now c.in-Ok-continuation_at.ensures

pub returns : goal.returns
returns g c =
    let m = g.R.WasmModuleResources.meaning c.args.resources.now in
    exchanged_row (refused c.exchange_above.result) m c.args.validator.now c.exchange_above.new.validator (switch c.args.type_index c.args.tag_index) StackSwitching (types_in m c.in-Some.split.1.now ++ types_in m (c.reference_at-resumed.result ∷ [])) (types_in m c.in-Some-continuation_in.found.0.now) (continuation_is (op.Switch c.args.type_index c.args.tag_index)) c.in-Ok.ensures.begins
    (switch_row m c.args.validator.now c.args.type_index c.args.tag_index c.in-Ok-continuation_at.found.0.now c.in-Ok-continuation_at.found.1.now c.in-Some.split.1.now c.in-Some.split.0 c.in-Some-continuation_in.found.0.now c.in-Some-continuation_in.found.1.now c.in-Ok-tag_at.tag.now.params c.in-Ok-tag_at.tag.now.results c.reference_at-resumed.result c.in-Ok-continuation_at.ensures c.in-Some.ensures c.in-Some-continuation_in.ensures c.in-Ok-tag_at.ensures (sym c.params.ensures ∙ emptied c.params.result.now (eqb-true (length c.params.result.now) 0 (sym c.is_empty.ensures ∙ c.if-not-is_empty.false))) ((rw c.results.ensures at c.are_below.ensures).0 c.if-not-are_below.false) ((rw c.results-2.ensures at c.are_below-2.ensures).0 c.if-not-are_below-2.false) c.reference_at-resumed.ensures)
    c.exchange_above.ensures.does (record { given = c.exchange_above.ensures.given; failed = c.exchange_above.ensures.failed; saved = c.exchange_above.ensures.saved })
