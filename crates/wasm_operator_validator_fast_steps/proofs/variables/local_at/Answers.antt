use Rattle.wasm_operator_validator_fast_steps.proofs.Sure.{sure}
use Rattle.wasm_operator_validator_fast_steps.proofs.variables.local_at.Goals as goal

pub returns : goal.returns
returns c =
    let t = c.args.tables.now in
    let (first, lt, same) = sure t.certain c.in-Some.index t.locals.items c.args.locals.now c.requires.locals c.if-index-locals.false in
    record { index = c.in-Some.index; read = c.in-Some.ensures; sure = first; there = lt; type = same }
