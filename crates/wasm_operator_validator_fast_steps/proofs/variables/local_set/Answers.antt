use Rattle.std.proofs.Common.{◌∷◌, get_or, refl}
use Rattle.wasm_operator_validator_fast_tables.proofs.Lowering.{lowered}
use Rattle.wasm_operator_validator_fast_steps.proofs.Rows.{took_local_set}
use Rattle.wasm_operator_validator_fast_steps.proofs.variables.local_set.Goals as goal

pub returns-clause-leads : goal.returns-clause-leads
returns-clause-leads c =
    let t = c.args.tables.now in
    let l = c.requires.local in
    let k = get_or t.locals.items l.index 0 in
    let w = c.take_below.new.self in
    let opens = c.args.opens.now.inner ∷ c.args.opens.now.outer in
    lowered t c.args.bytes.now c.args.at c.args.local.1 c.args.opens.now.inner c.args.opens.now.outer opens c.args.stack.now (k ∷ w.0, w.1) w
    (rw l.type at (c.if-not-take_below.ensures refl))
    (took_local_set t c.args.bytes.now c.args.at c.args.local.1 c.args.opens.now.inner c.args.opens.now.outer (k ∷ w.0, w.1) w c.requires.begins l.index l.read l.there refl)
