use Rattle.std.proofs.Common.{refl}
use Rattle.wasm_operator_validator_fast_steps.proofs.calls.pass.Goals as goal

pub returns-clause-usable : goal.returns-clause-usable
returns-clause-usable c = λ e. c.if-not-take_params.ensures.usable refl

pub returns-clause-passed : goal.returns-clause-passed
returns-clause-passed c = λ e. (c.take_params.new.stack, c.if-not-take_params.ensures.taken refl, c.put_results.ensures e)
