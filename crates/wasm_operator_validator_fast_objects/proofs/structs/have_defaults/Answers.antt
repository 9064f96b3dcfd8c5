use Rattle.std.proofs.Common.{arith}
use Rattle.wasm_operator_validator_fast_objects.proofs.Objects.{defaults_one, defaults_none, defaults_all}
use Rattle.wasm_operator_validator_fast_objects.proofs.structs.have_defaults.Goals as goal

pub loop-left-init : goal.loop-left-init
loop-left-init c = (omega arith, defaults_none c.args.fields.now)

pub loop-left-preserved : goal.loop-left-preserved
loop-left-preserved c = (
  omega (arith, c.loop-left.invariant.0),
  defaults_one c.args.fields.now c.loop-left.left c.loop-left-test.true c.loop-left.invariant.0 (c.has_default.ensures c.if-not-has_default.false) c.loop-left.invariant.1,
)

pub returns : goal.returns
returns c = λ e. defaults_all c.args.fields.now c.loop-left.left c.loop-left-test.false c.loop-left.invariant.1
