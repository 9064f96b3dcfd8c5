use Rattle.std.proofs.Common.{◌∙◌, List, Some, sym, ap}
use Rattle.wasm_operator_validator_rules.specs.Operands.{ValueType}
use Rattle.wasm_operator_validator_control.specs.laws.Labels.{label_at, no_label_at}
use Rattle.wasm_operator_validator_objects.proofs.Tables.{refused_row}
use Rattle.wasm_operator_validator_objects.proofs.Casting.{no_cast_row, no_label_row, empty_label_row, carries_other_row, branch_row, are_taken}
use Rattle.wasm_operator_validator_objects.proofs.casts.check_br_on_cast.Goals as goal

pub returns-in-Err-cast_of : goal.returns-in-Err-cast_of
returns-in-Err-cast_of g c =
    let m = g.R.WasmModuleResources.meaning c.args.resources.now in
    refused_row _ m c.args.validator.now c.args.op c.in-Ok.ensures (no_cast_row m c.args.validator.now c.args.op c.args.relative_depth c.args.from.now c.args.to.now c.args.fails c.requires c.in-Err-cast_of.ensures)

pub returns-in-None : goal.returns-in-None
returns-in-None g c =
    let m = g.R.WasmModuleResources.meaning c.args.resources.now in
    let σ = c.args.validator.now in
    let l = c.args.relative_depth in
    let first = c.in-Ok-cast_of.cast.0 in
    let second = c.in-Ok-cast_of.cast.1 in
    refused_row _ m σ c.args.op c.in-Ok.ensures (no_label_row m σ c.args.op l c.args.from.now c.args.to.now c.args.fails c.requires (no_label_at m σ.opens l c.in-None.ensures))

pub returns-in-None-split_label : goal.returns-in-None-split_label
returns-in-None-split_label g c =
    let m = g.R.WasmModuleResources.meaning c.args.resources.now in
    let σ = c.args.validator.now in
    let l = c.args.relative_depth in
    let first = c.in-Ok-cast_of.cast.0 in
    let second = c.in-Ok-cast_of.cast.1 in
    refused_row _ m σ c.args.op c.in-Ok.ensures (empty_label_row m σ c.args.op l c.args.from.now c.args.to.now c.args.fails c.label_types-types.result.now c.requires (label_at m σ.opens l c.in-Some.frame.0 c.in-Some.frame.1 c.in-Some.ensures ∙ ap (λ (vs : List ValueType). Some vs) (sym c.label_types-types.ensures)) c.in-None-split_label.ensures)

pub returns-then-not-is_subtype : goal.returns-then-not-is_subtype
returns-then-not-is_subtype g c =
    let m = g.R.WasmModuleResources.meaning c.args.resources.now in
    let σ = c.args.validator.now in
    let l = c.args.relative_depth in
    let first = c.in-Ok-cast_of.cast.0 in
    let second = c.in-Ok-cast_of.cast.1 in
    refused_row _ m σ c.args.op c.in-Ok.ensures (carries_other_row m σ c.args.op l c.args.from.now c.args.to.now first second c.args.fails c.label_types-types.result.now c.in-Some-split_label.split.1.now c.in-Some-split_label.split.0 c.taken_and_left-taken.result.0 c.taken_and_left-taken.result.1 c.is_subtype.result c.requires c.in-Ok-cast_of.ensures (label_at m σ.opens l c.in-Some.frame.0 c.in-Some.frame.1 c.in-Some.ensures ∙ ap (λ (vs : List ValueType). Some vs) (sym c.label_types-types.ensures)) c.in-Some-split_label.ensures (are_taken m σ c.args.from.now c.args.to.now first second c.args.fails c.taken_and_left-taken.result.0 c.taken_and_left-taken.result.1 c.in-Ok-cast_of.ensures c.taken_and_left-taken.ensures) c.is_subtype.ensures c.if-not-is_subtype.true)

pub branch-validator-requires-clause-row : goal.branch-validator-requires-clause-row
branch-validator-requires-clause-row g c =
    let m = g.R.WasmModuleResources.meaning c.args.resources.now in
    let σ = c.args.validator.now in
    let l = c.args.relative_depth in
    let first = c.in-Ok-cast_of.cast.0 in
    let second = c.in-Ok-cast_of.cast.1 in
    branch_row m σ c.args.op l c.args.from.now c.args.to.now first second c.args.fails c.label_types-types.result.now c.in-Some-split_label.split.1.now c.in-Some-split_label.split.0 c.taken_and_left-taken.result.0 c.taken_and_left-taken.result.1 c.is_subtype.result c.requires c.in-Ok-cast_of.ensures (label_at m σ.opens l c.in-Some.frame.0 c.in-Some.frame.1 c.in-Some.ensures ∙ ap (λ (vs : List ValueType). Some vs) (sym c.label_types-types.ensures)) c.in-Some-split_label.ensures (are_taken m σ c.args.from.now c.args.to.now first second c.args.fails c.taken_and_left-taken.result.0 c.taken_and_left-taken.result.1 c.in-Ok-cast_of.ensures c.taken_and_left-taken.ensures) c.is_subtype.ensures c.if-not-is_subtype.false
