use Rattle.std.proofs.Common.{arith}
use Rattle.wasm_operator_validator_fast_tables.proofs.Lying.{one_taken, none_taken, all_taken}
use Rattle.wasm_operator_validator_fast_tables.proofs.stack.Stack.take_each.Goals as goal

pub loop-left-init : goal.loop-left-init
loop-left-init c = (omega arith, none_taken c.args.order.now c.args.self.now c.args.types.now)

pub loop-left-preserved : goal.loop-left-preserved
loop-left-preserved c = (
  omega (arith, c.loop-left.invariant.0),
  one_taken c.args.order.now c.args.self.now c.loop-left.self c.take_below.new.self c.args.types.now c.loop-left.left c.loop-left-test.true c.loop-left.invariant.0
      c.loop-left.invariant.1 (c.take_below.ensures c.if-not-take_below.false),
)

pub returns : goal.returns
returns c = λ e. all_taken c.args.order.now c.args.self.now c.loop-left.self c.args.types.now c.loop-left.left c.loop-left-test.false c.loop-left.invariant.1
