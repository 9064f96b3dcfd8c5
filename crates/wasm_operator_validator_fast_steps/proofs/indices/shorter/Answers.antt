use Rattle.std.proofs.Common.{arith}
use Rattle.wasm_operator_validator_fast_steps.proofs.Indexed.{shorter_none, shorter_other}
use Rattle.wasm_operator_validator_fast_steps.proofs.indices.shorter.Goals as goal

pub returns-then-to-eq0 : goal.returns-then-to-eq0
returns-then-to-eq0 c = shorter_none c.args.to c.args.from c.if-to-eq0.true

pub returns : goal.returns
returns c = shorter_other c.args.to c.args.from (omega (arith, c.if-to-eq0.false))
