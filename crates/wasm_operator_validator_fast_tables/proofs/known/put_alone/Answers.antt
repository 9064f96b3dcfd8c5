use Rattle.std.proofs.Common.{◌≡◌, arith, length}
use Rattle.wasm_operator_validator_fast_tables.proofs.Knowing.{own_next, own_places}
use Rattle.wasm_operator_validator_fast_tables.proofs.known.put_alone.Goals as goal

pub loop-code-preserved : goal.loop-code-preserved
loop-code-preserved c = own_next c.loop-code.flat.items c.push.new.self.items c.loop-code.code c.in-Ok.ensures.items c.loop-code.invariant

pub returns-clause-alone : goal.returns-clause-alone
returns-clause-alone c = λ e.
    let long : length c.loop-code.flat.items ≡ 40 = omega (arith, c.loop-code.invariant.1, c.loop-code-test.false, c.loop-code.auto.code-end) in
    own_places c.loop-code.flat.items long c.loop-code.invariant.0
