use Rattle.std.proofs.Common.{◌≡◌, false, ap}
use Rattle.wasm_operator_validator_state.specs.State.{State}
use Rattle.wasm_operator_validator_constants.specs.Checked.{Surroundings}
use Rattle.wasm_operator_validator_constants.specs.laws.Constants.{checks_constant, checks_without_memory}
use Rattle.wasm_operator_validator_constants.proofs.checking.check_const_expr.Goals as goal

pub validate_constant-answer-requires : goal.validate_constant-answer-requires
validate_constant-answer-requires g c = record { going = ap (λ (x : State). x.failed) c.in-Ok.ensures.begins }

pub returns-in-Err-clause-checks : goal.returns-in-Err-clause-checks
returns-in-Err-clause-checks g c =
    let w : Surroundings = record { bits = c.args.features.0; meaning = g.R.WasmModuleResources.meaning c.args.resources.now; imported = c.args.imported_globals } in
    checks_without_memory w c.args.ty c.args.expr.now c.in-Err.error c.in-Err.ensures.refused

pub returns-clause-checks : goal.returns-clause-checks
returns-clause-checks g c =
    let w : Surroundings = record { bits = c.args.features.0; meaning = g.R.WasmModuleResources.meaning c.args.resources.now; imported = c.args.imported_globals } in
    let h = rw (c.in-Ok.ensures.begins, c.get_binary_reader-reader.ensures) at c.validate_constant-answer.ensures in
    checks_constant w c.args.ty c.args.expr.now c.validate_constant-answer.result h
