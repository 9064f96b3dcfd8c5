use Rattle.std.proofs.Common.{refl}
use Rattle.wasm_operator_validator_fast_objects.proofs.Clauses.{below_behind}
use Rattle.wasm_operator_validator_fast_objects.proofs.exceptions.fits_label.Goals as goal

pub returns-then-not-reference : goal.returns-then-not-reference
returns-then-not-reference c e = rw c.if-not-reference.true (c.are_below.ensures e)

pub returns : goal.returns
returns c e = rw (c.if-not-reference.false, c.in-Some.ensures) (below_behind c.args.order.now c.args.given.now c.in-Some.under.now 29 c.in-Some.last (c.are_below-2.ensures e) (c.if-not-may_be_taken.ensures refl))
