use Rattle.std.proofs.Common.{arith}
use Rattle.wasm_operator_validator_fast_objects.proofs.Objects.{fields_one, fields_none, fields_all}
use Rattle.wasm_operator_validator_fast_objects.proofs.structs.take_fields.Goals as goal

pub loop-left-init : goal.loop-left-init
loop-left-init c = (omega arith, fields_none c.args.order.now c.args.stack.now c.args.fields.now)

pub loop-left-preserved : goal.loop-left-preserved
loop-left-preserved c = (
  omega (arith, c.loop-left.invariant.0),
  fields_one c.args.order.now c.args.stack.now c.loop-left.stack c.take_below.new.self c.args.fields.now c.loop-left.left c.loop-left-test.true c.loop-left.invariant.0
      c.loop-left.invariant.1 (c.take_below.ensures c.if-not-take_below.false),
)

pub returns : goal.returns
returns c = λ e. fields_all c.args.order.now c.args.stack.now c.loop-left.stack c.args.fields.now c.loop-left.left c.loop-left-test.false c.loop-left.invariant.1
