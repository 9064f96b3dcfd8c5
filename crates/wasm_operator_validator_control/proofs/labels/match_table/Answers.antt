use Rattle.std.proofs.Common.{◌∙◌, sym, ap, Some, length}
use Rattle.std.proofs.lemmas.List.{length-map}
use Rattle.wasm_operator_validator_state.specs.resources.Meaning.{type_in}
use Rattle.wasm_operator_validator_state.specs.State.{types_in}
use Rattle.wasm_operator_validator_control.specs.laws.Labels.{label_at}
use Rattle.wasm_operator_validator_control.proofs.Fits.{no_targets, no_default, agreed}
use Rattle.wasm_operator_validator_control.proofs.labels.match_table.Goals as goal

pub returns-in-Err : goal.returns-in-Err
returns-in-Err g c =
    let m = g.R.WasmModuleResources.meaning c.args.resources.now in
    let types = c.label_types-types.result.now in
    no_targets m c.args.validator.now (length types) c.args.table.now.default (types_in m types) c.args.table.now.targets
    (label_at m c.args.validator.now.opens c.args.table.now.default c.in-Some.block_type c.in-Some.kind (rw c.default.ensures at c.in-Some.ensures) ∙ sym (ap Some c.label_types-types.ensures))
    (sym (length-map types (type_in m))) (rw c.targets.ensures at c.in-Err.ensures)

pub returns-in-Err-match_operands : goal.returns-in-Err-match_operands
returns-in-Err-match_operands g c =
    let m = g.R.WasmModuleResources.meaning c.args.resources.now in
    let types = c.label_types-types.result.now in
    no_default m c.args.validator.now c.args.table.now.default (types_in m types) c.args.table.now.targets
    (label_at m c.args.validator.now.opens c.args.table.now.default c.in-Some.block_type c.in-Some.kind (rw c.default.ensures at c.in-Some.ensures) ∙ sym (ap Some c.label_types-types.ensures))
    c.in-Err-match_operands.ensures

pub returns : goal.returns
returns g c =
    let m = g.R.WasmModuleResources.meaning c.args.resources.now in
    let types = c.label_types-types.result.now in
    agreed c.agree.result m c.args.validator.now (length types) c.args.table.now.default (types_in m types) c.args.table.now.targets c.requires
    (label_at m c.args.validator.now.opens c.args.table.now.default c.in-Some.block_type c.in-Some.kind (rw c.default.ensures at c.in-Some.ensures) ∙ sym (ap Some c.label_types-types.ensures))
    (sym (length-map types (type_in m))) (rw c.targets.ensures at c.in-Ok.ensures) c.in-Ok-match_operands.ensures c.agree.ensures
