use Rattle.std.proofs.Common.{inl, refl}
use Rattle.wasm_operator_validator_fast_steps.proofs.Rows.{took_local_get}
use Rattle.wasm_operator_validator_fast_steps.proofs.variables.local_get.Goals as goal

pub returns-clause-leads : goal.returns-clause-leads
returns-clause-leads c =
    let l = c.requires.local in
    took_local_get c.args.tables.now c.args.bytes.now c.args.at c.args.local.1 c.args.opens.now.inner c.args.opens.now.outer c.args.stack.now c.put.new.self c.requires.begins l.index l.read
    l.there (inl l.sure) (rw l.type at (c.if-not-put.ensures refl))
