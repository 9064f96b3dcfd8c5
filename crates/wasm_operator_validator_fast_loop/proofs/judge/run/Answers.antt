use Rattle.std.proofs.Common.{◌<◌, length, arith}
use Rattle.wasm_operator_validator_fast_loop.proofs.judge.run.Goals as goal

pub loop-at-init : goal.loop-at-init
loop-at-init c = (c.requires, λ lt ids z g fits x. x)

pub loop-at-preserved : goal.loop-at-preserved
loop-at-preserved c =
    let there : c.loop-at.at < length c.args.bytes.now = omega (arith, c.loop-at-test.true) in
    (c.next-at.ensures.inside, λ lt ids z g fits x. c.loop-at.invariant.1 there ids z g fits (c.next-at.ensures.leads lt ids z g fits x))

pub returns : goal.returns
returns c = λ e ids z g fits. c.loop-at.invariant.1 (c.finish.ensures.inside e) ids z g fits (c.finish.ensures.goes e ids z g fits)
