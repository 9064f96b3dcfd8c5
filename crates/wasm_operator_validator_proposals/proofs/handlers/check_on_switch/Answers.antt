use Rattle.std.proofs.Common.{◌∙◌, [], ◌∷◌, ◌++◌, false, true, List, Some, sym, ap, length}
use Rattle.std.proofs.lemmas.Bool.{eqb-true}
use Rattle.wasm_operator_validator_rules.specs.Operands.{ValueType}
use Rattle.wasm_operator_validator_state.specs.State.{types_in}
use Rattle.wasm_operator_validator_control.specs.laws.Labels.{label_at, no_label_at}
use Rattle.wasm_operator_validator_proposals.proofs.Handling.{untagged, unlabelled, nothing_labelled, names_none, carries_other, takes_other, gives_other, caught, not_tagged, switch_carries, switch_unfit, switch_unfit_back, switched, emptied, not_empty}
use Rattle.wasm_operator_validator_proposals.proofs.handlers.check_on_switch.Goals as goal

pub returns-in-Err : goal.returns-in-Err
returns-in-Err g c =
    let m = g.R.WasmModuleResources.meaning c.args.resources.now in
    not_tagged m c.args.validator.now (types_in m c.args.results.now) c.args.tag_index c.in-Err.ensures

pub returns-then-not-is_empty : goal.returns-then-not-is_empty
returns-then-not-is_empty g c =
    let m = g.R.WasmModuleResources.meaning c.args.resources.now in
    switch_carries m c.args.validator.now (types_in m c.args.results.now) c.args.tag_index c.in-Ok.tag.now.params c.in-Ok.tag.now.results c.in-Ok.ensures (not_empty c.in-Ok.tag.now.params c.is_empty.result c.params.ensures c.is_empty.ensures c.if-not-is_empty.true)

pub returns-then-not-are_below : goal.returns-then-not-are_below
returns-then-not-are_below g c =
    let m = g.R.WasmModuleResources.meaning c.args.resources.now in
    switch_unfit m c.args.validator.now c.args.results.now c.args.tag_index c.in-Ok.tag.now.params c.in-Ok.tag.now.results c.are_below.result c.in-Ok.ensures (rw c.results.ensures at c.are_below.ensures) c.if-not-are_below.true

pub returns-then-not-are_below-2 : goal.returns-then-not-are_below-2
returns-then-not-are_below-2 g c =
    let m = g.R.WasmModuleResources.meaning c.args.resources.now in
    switch_unfit_back m c.args.validator.now c.args.results.now c.args.tag_index c.in-Ok.tag.now.params c.in-Ok.tag.now.results c.are_below-2.result c.in-Ok.ensures (rw c.results-2.ensures at c.are_below-2.ensures) c.if-not-are_below-2.true

pub returns : goal.returns
returns g c =
    let m = g.R.WasmModuleResources.meaning c.args.resources.now in
    switched m c.args.validator.now c.args.results.now c.args.tag_index c.in-Ok.tag.now.params c.in-Ok.tag.now.results c.in-Ok.ensures (sym c.params.ensures ∙ emptied c.params.result.now (eqb-true (length c.params.result.now) 0 (sym c.is_empty.ensures ∙ c.if-not-is_empty.false))) ((rw c.results.ensures at c.are_below.ensures).0 c.if-not-are_below.false) ((rw c.results-2.ensures at c.are_below-2.ensures).0 c.if-not-are_below-2.false)
