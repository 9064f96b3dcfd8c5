use Rattle.std.proofs.Common.{refl, get_or}
use Rattle.std.proofs.lemmas.Option.{slice_get-get_or}
use Rattle.wasm_operator_validator_fast_tables.specs.declared.order.Step.{Step}
use Rattle.wasm_operator_validator_fast_tables.proofs.Reaching.{heaps_same, far_twice}
use Rattle.wasm_operator_validator_fast_tables.proofs.naming.far_above.Goals as goal

pub returns-then-place-steps : goal.returns-then-place-steps
returns-then-place-steps c ids all = heaps_same ids c.args.above c.args.above refl

pub returns-then-far-steps : goal.returns-then-far-steps
returns-then-far-steps c ids all = heaps_same ids c.args.above c.args.above refl

pub returns-then-further-steps : goal.returns-then-further-steps
returns-then-further-steps c ids all = heaps_same ids c.args.above c.args.above refl

pub returns : goal.returns
returns c ids all =
    let least : Step = record { above = 0; bottom = 0; far = 0; depth = 0 } in
    let one = get_or c.args.steps.now c.args.above least in
    far_twice ids c.args.steps.now all c.args.above one (get_or c.args.steps.now one.far least)
    (slice_get-get_or c.args.steps.now c.args.above least c.if-place-steps.false) (slice_get-get_or c.args.steps.now one.far least c.if-far-steps.false)
