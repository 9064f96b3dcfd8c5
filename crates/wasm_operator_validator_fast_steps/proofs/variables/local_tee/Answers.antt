use Rattle.std.proofs.Common.{◌∷◌, refl}
use Rattle.wasm_operator_validator_fast_tables.proofs.Lowering.{lowered}
use Rattle.wasm_operator_validator_fast_steps.proofs.Rows.{took_local_tee}
use Rattle.wasm_operator_validator_fast_steps.proofs.variables.local_tee.Goals as goal

pub returns-clause-leads : goal.returns-clause-leads
returns-clause-leads c =
    let t = c.args.tables.now in
    let l = c.requires.local in
    let (rest, put, below) = rw l.type at (c.if-not-change_below.ensures refl) in
    let w = c.change_below.new.self in
    let opens = c.args.opens.now.inner ∷ c.args.opens.now.outer in
    lowered t c.args.bytes.now c.args.at c.args.local.1 c.args.opens.now.inner c.args.opens.now.outer opens c.args.stack.now w w below
    (took_local_tee t c.args.bytes.now c.args.at c.args.local.1 c.args.opens.now.inner c.args.opens.now.outer w w c.requires.begins l.index l.read l.there rest put refl)
