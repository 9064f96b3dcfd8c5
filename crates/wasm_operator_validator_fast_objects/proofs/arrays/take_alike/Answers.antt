use Rattle.std.proofs.Common.{◌≡◌, ℕ, ◌+◌, replicate, refl, subst, arith}
use Rattle.wasm_operator_validator_fast_tables.specs.Stacks.{with_all}
use Rattle.wasm_operator_validator_fast_tables.specs.Values.{IsLowered}
use Rattle.wasm_operator_validator_fast_tables.proofs.Lowering.{lower_same}
use Rattle.wasm_operator_validator_fast_objects.proofs.Objects.{alike_next, taken_more}
use Rattle.wasm_operator_validator_fast_objects.proofs.arrays.take_alike.Goals as goal

pub loop-init : goal.loop-init
loop-init c = lower_same c.args.order.now c.args.stack.now (with_all (replicate 0 c.args.code) c.args.stack.now) refl

pub loop-preserved : goal.loop-preserved
loop-preserved c =
    taken_more c.args.order.now c.args.code (replicate c.loop.counter c.args.code) (replicate (c.loop.counter + 1) c.args.code) c.args.stack.now c.loop.stack c.take_below.new.self
    (alike_next c.args.code c.loop.counter) c.loop.invariant (c.take_below.ensures c.if-not-take_below.false)

pub returns : goal.returns
returns c = λ e.
    let n : c.loop.counter ≡ c.args.count = omega arith in
    subst (λ (k : ℕ). IsLowered c.args.order.now c.args.stack.now (with_all (replicate k c.args.code) c.loop.stack)) n c.loop.invariant
