use Rattle.wasm_operator_validator_control.proofs.Naming.{used_function}
use Rattle.wasm_operator_validator_control.proofs.callees.usable_function.Goals as goal

pub returns : goal.returns
returns c = λ m t e.
    used_function c.args.validator.now m t c.args.sub_type.now c.may_use.result c.in-Some.function.now c.may_use.ensures c.if-not-may_use.false c.in-Some.ensures e
