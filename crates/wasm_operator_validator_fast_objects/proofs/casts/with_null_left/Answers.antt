use Rattle.wasm_operator_validator_fast_objects.proofs.casts.with_null_left.Goals as goal

pub returns-then-taken : goal.returns-then-taken
returns-then-taken c = rw c.if-taken.true c.with_null.ensures

pub returns : goal.returns
returns c = rw c.if-taken.false c.with_null-2.ensures
