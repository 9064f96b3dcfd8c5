use Rattle.std.proofs.Common.{arith}
use Rattle.wasm_operator_validator_fast_steps.proofs.indices.any_argument_at.Goals as goal

pub returns : goal.returns
returns c = c.long_argument_at-both.ensures (omega (arith, c.if-both-eq0.false))
