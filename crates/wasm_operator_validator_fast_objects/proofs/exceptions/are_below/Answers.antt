use Rattle.std.proofs.Common.{◌≡◌, ℕ, drop, subst, refl, arith}
use Rattle.wasm_operator_validator_fast_tables.specs.Values.{AreBelow}
use Rattle.wasm_operator_validator_fast_objects.proofs.Clauses.{below_none, below_next}
use Rattle.wasm_operator_validator_fast_objects.proofs.exceptions.are_below.Goals as goal

pub loop-left-init : goal.loop-left-init
loop-left-init c = (omega arith, below_none c.args.order.now c.args.given.now c.args.wanted.now _ (omega arith) (omega arith))

pub loop-left-preserved : goal.loop-left-preserved
loop-left-preserved c = (
  omega arith,
  below_next c.args.order.now c.args.given.now c.args.wanted.now c.loop-left.left (omega arith) (omega arith) (omega arith) (c.if-not-may_be_taken.ensures refl) c.loop-left.invariant.1,
)

pub returns : goal.returns
returns c e =
    let none : c.loop-left.left ≡ 0 = omega arith in
    subst (λ (n : ℕ). AreBelow c.args.order.now (drop n c.args.given.now) (drop n c.args.wanted.now)) none c.loop-left.invariant.1
