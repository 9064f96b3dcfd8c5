use Rattle.wasm_operator_validator_control.proofs.Tags.{exception_is}
use Rattle.wasm_operator_validator_control.proofs.exceptions.exception_type.Goals as goal

pub returns : goal.returns
returns c = λ m. exception_is m c.args.nullable c.in-Some.reference c.in-Some.ensures.value
