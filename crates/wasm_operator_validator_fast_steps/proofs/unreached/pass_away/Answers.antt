use Rattle.std.proofs.Common.{◌∷◌, arith}
use Rattle.wasm_operator_validator_fast_steps.proofs.Unreaching.{passed_none, passed_more}
use Rattle.wasm_operator_validator_fast_steps.proofs.unreached.pass_away.Goals as goal

pub loop-end-init : goal.loop-end-init
loop-end-init c = record {
  passed = passed_none c.args.tables.now c.args.bytes.now (c.args.opens.now.inner ∷ c.args.opens.now.outer) c.args.at;
  forward = omega arith;
  inside = c.requires;
}

pub loop-end-preserved : goal.loop-end-preserved
loop-end-preserved c = record {
  passed = passed_more c.args.tables.now c.args.bytes.now (c.args.opens.now.inner ∷ c.args.opens.now.outer) c.args.at c.loop-end.end c.in-Some.next c.loop-end.invariant.passed
      c.in-Some.ensures.passed;
  forward = omega (arith, c.loop-end.invariant.forward, c.in-Some.ensures.forward);
  inside = c.in-Some.ensures.inside;
}
