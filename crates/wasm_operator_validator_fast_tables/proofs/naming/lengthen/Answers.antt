use Rattle.std.proofs.Common.{ap, length}
use Rattle.wasm_operator_validator_fast_tables.proofs.Climbing.{steps_stay}
use Rattle.wasm_operator_validator_fast_tables.proofs.naming.lengthen.Goals as goal

pub loop-steps-preserved : goal.loop-steps-preserved
loop-steps-preserved c ids are =
    steps_stay ids c.loop-steps.steps.items c.push.new.self.items _ c.in-Ok.ensures.items (ap length c.as_slice-held.ensures.value) (c.loop-steps.invariant ids are)
