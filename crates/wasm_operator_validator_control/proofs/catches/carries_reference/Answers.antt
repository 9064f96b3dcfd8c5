use Rattle.std.proofs.Common.{◌∙◌, sym, ap, Some}
use Rattle.wasm_operator_validator_state.specs.State.{types_in}
use Rattle.wasm_operator_validator_stacks.specs.determined.laws.Usable.{fails}
use Rattle.wasm_operator_validator_control.specs.laws.Labels.{label_at}
use Rattle.wasm_operator_validator_control.proofs.Catching.{no_reference_carried, reference_not_carried, reference_carried}
use Rattle.wasm_operator_validator_control.proofs.catches.carries_reference.Goals as goal

pub returns-in_default-split_last : goal.returns-in_default-split_last
returns-in_default-split_last g c =
    let m = g.R.WasmModuleResources.meaning c.args.resources.now in
    no_reference_carried m c.args.validator.now (types_in m c.args.types.now) c.args.label c.label_types-expected.result.now
    (label_at m c.args.validator.now.opens c.args.label c.in-Some.block_type c.in-Some.kind c.in-Some.ensures ∙ sym (ap Some c.label_types-expected.ensures))
    c.in_default-split_last.ensures.cases

pub returns-then-not-are_below : goal.returns-then-not-are_below
returns-then-not-are_below g c =
    let m = g.R.WasmModuleResources.meaning c.args.resources.now in
    reference_not_carried m c.args.validator.now (types_in m c.args.types.now) c.args.label c.label_types-expected.result.now c.in-Some-split_last.others.now c.in-Some-split_last.last.now
    (label_at m c.args.validator.now.opens c.args.label c.in-Some.block_type c.in-Some.kind c.in-Some.ensures ∙ sym (ap Some c.label_types-expected.ensures))
    c.in-Some-split_last.ensures.cases.0 (λ b. fails c.are_below.result c.are_below.ensures c.if-not-are_below.true b.0)

pub returns-then-not-is_subtype : goal.returns-then-not-is_subtype
returns-then-not-is_subtype g c =
    let m = g.R.WasmModuleResources.meaning c.args.resources.now in
    reference_not_carried m c.args.validator.now (types_in m c.args.types.now) c.args.label c.label_types-expected.result.now c.in-Some-split_last.others.now c.in-Some-split_last.last.now
    (label_at m c.args.validator.now.opens c.args.label c.in-Some.block_type c.in-Some.kind c.in-Some.ensures ∙ sym (ap Some c.label_types-expected.ensures))
    c.in-Some-split_last.ensures.cases.0 (λ b. fails c.is_subtype.result (rw (c.exception_type-caught.ensures m) at c.is_subtype.ensures) c.if-not-is_subtype.true b.1)

pub returns : goal.returns
returns g c =
    let m = g.R.WasmModuleResources.meaning c.args.resources.now in
    let fits = rw (c.exception_type-caught.ensures m) at c.is_subtype.ensures in
    reference_carried m c.args.validator.now (types_in m c.args.types.now) c.args.label c.label_types-expected.result.now c.in-Some-split_last.others.now c.in-Some-split_last.last.now
    (label_at m c.args.validator.now.opens c.args.label c.in-Some.block_type c.in-Some.kind c.in-Some.ensures ∙ sym (ap Some c.label_types-expected.ensures))
    c.in-Some-split_last.ensures.cases.0 (c.are_below.ensures.0 c.if-not-are_below.false, fits.0 c.if-not-is_subtype.false)
