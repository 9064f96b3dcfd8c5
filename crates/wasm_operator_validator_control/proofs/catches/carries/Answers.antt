use Rattle.std.proofs.Common.{◌∙◌, sym, ap, Some}
use Rattle.wasm_operator_validator_state.specs.State.{types_in}
use Rattle.wasm_operator_validator_stacks.specs.determined.laws.Usable.{fails}
use Rattle.wasm_operator_validator_control.specs.laws.Labels.{label_at, no_label_at}
use Rattle.wasm_operator_validator_control.proofs.Catching.{no_label, not_carried, carried}
use Rattle.wasm_operator_validator_control.proofs.catches.carries.Goals as goal

pub returns-in_default : goal.returns-in_default
returns-in_default g c =
    let m = g.R.WasmModuleResources.meaning c.args.resources.now in
    no_label m c.args.validator.now (types_in m c.args.types.now) c.args.label (no_label_at m c.args.validator.now.opens c.args.label c.in_default.ensures)

pub returns-then-not-are_below : goal.returns-then-not-are_below
returns-then-not-are_below g c =
    let m = g.R.WasmModuleResources.meaning c.args.resources.now in
    not_carried m c.args.validator.now (types_in m c.args.types.now) (types_in m c.label_types-expected.result.now) c.args.label
    (label_at m c.args.validator.now.opens c.args.label c.in-Some.block_type c.in-Some.kind c.in-Some.ensures ∙ sym (ap Some c.label_types-expected.ensures))
    (fails c.are_below.result c.are_below.ensures c.if-not-are_below.true)

pub returns : goal.returns
returns g c =
    let m = g.R.WasmModuleResources.meaning c.args.resources.now in
    carried m c.args.validator.now (types_in m c.args.types.now) (types_in m c.label_types-expected.result.now) c.args.label
    (label_at m c.args.validator.now.opens c.args.label c.in-Some.block_type c.in-Some.kind c.in-Some.ensures ∙ sym (ap Some c.label_types-expected.ensures))
    (c.are_below.ensures.0 c.if-not-are_below.false)
