use Rattle.std.proofs.Common.{arith}
use Rattle.wasm_operator_validator_fast_objects.proofs.Referring.{odd_above, odd_itself}
use Rattle.wasm_operator_validator_fast_objects.proofs.references.never_null.Goals as goal

pub returns-then-code-eq0 : goal.returns-then-code-eq0
returns-then-code-eq0 c high ids = odd_above ids c.args.code high c.if-code-eq0.true

pub returns : goal.returns
returns c high ids = odd_itself ids c.args.code high (let other = c.if-code-eq0.false in omega (arith, other))
