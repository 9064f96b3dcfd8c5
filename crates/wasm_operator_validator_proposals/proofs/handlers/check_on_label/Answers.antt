use Rattle.std.proofs.Common.{◌∙◌, [], ◌∷◌, ◌++◌, false, true, List, Some, sym, ap, length}
use Rattle.std.proofs.lemmas.Bool.{eqb-true}
use Rattle.wasm_operator_validator_rules.specs.Operands.{ValueType}
use Rattle.wasm_operator_validator_state.specs.State.{types_in}
use Rattle.wasm_operator_validator_control.specs.laws.Labels.{label_at, no_label_at}
use Rattle.wasm_operator_validator_proposals.proofs.Handling.{untagged, unlabelled, nothing_labelled, names_none, carries_other, takes_other, gives_other, caught, not_tagged, switch_carries, switch_unfit, switch_unfit_back, switched, emptied, not_empty}
use Rattle.wasm_operator_validator_proposals.proofs.handlers.check_on_label.Goals as goal

pub returns-in-Err : goal.returns-in-Err
returns-in-Err g c =
    let m = g.R.WasmModuleResources.meaning c.args.resources.now in
    untagged m c.args.validator.now (types_in m c.args.results.now) c.args.tag_index c.args.label c.in-Err.ensures

pub returns-in-None : goal.returns-in-None
returns-in-None g c =
    let m = g.R.WasmModuleResources.meaning c.args.resources.now in
    unlabelled m c.args.validator.now (types_in m c.args.results.now) c.args.tag_index c.args.label (no_label_at m c.args.validator.now.opens c.args.label c.in-None.ensures)

pub returns-in-None-split_label : goal.returns-in-None-split_label
returns-in-None-split_label g c =
    let m = g.R.WasmModuleResources.meaning c.args.resources.now in
    nothing_labelled m c.args.validator.now (types_in m c.args.results.now) c.args.tag_index c.args.label c.label_types-types.result.now (label_at m c.args.validator.now.opens c.args.label c.in-Some.frame.0 c.in-Some.frame.1 c.in-Some.ensures ∙ ap (λ (vs : List ValueType). Some vs) (sym c.label_types-types.ensures)) c.in-None-split_label.ensures

pub returns-in-None-continuation_in : goal.returns-in-None-continuation_in
returns-in-None-continuation_in g c =
    let m = g.R.WasmModuleResources.meaning c.args.resources.now in
    names_none m c.args.validator.now (types_in m c.args.results.now) c.args.tag_index c.args.label c.label_types-types.result.now c.in-Some-split_label.split.1.now c.in-Some-split_label.split.0 ((label_at m c.args.validator.now.opens c.args.label c.in-Some.frame.0 c.in-Some.frame.1 c.in-Some.ensures ∙ ap (λ (vs : List ValueType). Some vs) (sym c.label_types-types.ensures)), c.in-Some-split_label.ensures) c.in-None-continuation_in.ensures

pub returns-then-not-are_below : goal.returns-then-not-are_below
returns-then-not-are_below g c =
    let m = g.R.WasmModuleResources.meaning c.args.resources.now in
    carries_other m c.args.validator.now (types_in m c.args.results.now) c.args.tag_index c.args.label c.label_types-types.result.now c.in-Some-split_label.split.1.now c.in-Some-split_label.split.0 c.in-Ok.tag.now.params c.in-Ok.tag.now.results c.are_below.result ((label_at m c.args.validator.now.opens c.args.label c.in-Some.frame.0 c.in-Some.frame.1 c.in-Some.ensures ∙ ap (λ (vs : List ValueType). Some vs) (sym c.label_types-types.ensures)), c.in-Some-split_label.ensures) c.in-Ok.ensures (rw c.params.ensures at c.are_below.ensures) c.if-not-are_below.true

pub returns-then-not-are_below-2 : goal.returns-then-not-are_below-2
returns-then-not-are_below-2 g c =
    let m = g.R.WasmModuleResources.meaning c.args.resources.now in
    takes_other m c.args.validator.now (types_in m c.args.results.now) c.args.tag_index c.args.label c.label_types-types.result.now c.in-Some-split_label.split.1.now c.in-Some-split_label.split.0 c.in-Ok.tag.now.params c.in-Ok.tag.now.results c.in-Some-continuation_in.found.0.now c.in-Some-continuation_in.found.1.now c.are_below-2.result ((label_at m c.args.validator.now.opens c.args.label c.in-Some.frame.0 c.in-Some.frame.1 c.in-Some.ensures ∙ ap (λ (vs : List ValueType). Some vs) (sym c.label_types-types.ensures)), c.in-Some-split_label.ensures) c.in-Ok.ensures c.in-Some-continuation_in.ensures (rw c.results.ensures at c.are_below-2.ensures) c.if-not-are_below-2.true

pub returns-then-not-are_below-3 : goal.returns-then-not-are_below-3
returns-then-not-are_below-3 g c =
    let m = g.R.WasmModuleResources.meaning c.args.resources.now in
    gives_other m c.args.validator.now c.args.results.now c.args.tag_index c.args.label c.label_types-types.result.now c.in-Some-split_label.split.1.now c.in-Some-split_label.split.0 c.in-Some-continuation_in.found.0.now c.in-Some-continuation_in.found.1.now c.are_below-3.result ((label_at m c.args.validator.now.opens c.args.label c.in-Some.frame.0 c.in-Some.frame.1 c.in-Some.ensures ∙ ap (λ (vs : List ValueType). Some vs) (sym c.label_types-types.ensures)), c.in-Some-split_label.ensures) c.in-Some-continuation_in.ensures c.are_below-3.ensures c.if-not-are_below-3.true

pub returns : goal.returns
returns g c =
    let m = g.R.WasmModuleResources.meaning c.args.resources.now in
    caught m c.args.validator.now c.args.results.now c.args.tag_index c.args.label c.label_types-types.result.now c.in-Some-split_label.split.1.now c.in-Some-split_label.split.0 c.in-Ok.tag.now.params c.in-Ok.tag.now.results c.in-Some-continuation_in.found.0.now c.in-Some-continuation_in.found.1.now ((label_at m c.args.validator.now.opens c.args.label c.in-Some.frame.0 c.in-Some.frame.1 c.in-Some.ensures ∙ ap (λ (vs : List ValueType). Some vs) (sym c.label_types-types.ensures)), c.in-Some-split_label.ensures) c.in-Ok.ensures c.in-Some-continuation_in.ensures ((rw c.params.ensures at c.are_below.ensures).0 c.if-not-are_below.false) ((rw c.results.ensures at c.are_below-2.ensures).0 c.if-not-are_below-2.false) (c.are_below-3.ensures.0 c.if-not-are_below-3.false)
