use Rattle.std.proofs.Common.{refl}
use Rattle.wasm_operator_validator_fast_steps.proofs.Rows.{took_local_get}
use Rattle.wasm_operator_validator_fast_steps.proofs.late.late_get.Goals as goal

pub returns-clause-leads : goal.returns-clause-leads
returns-clause-leads c =
    let locals = c.as_slice-locals.ensures.value in
    took_local_get c.args.tables.now c.args.bytes.now c.args.at c.in-Some.end c.args.opens.now.inner c.args.opens.now.outer c.args.stack.now c.put.new.self c.requires c.in-Some.index c.in-Some.ensures
    (rw locals at c.if-index-locals.false) (rw c.inner.ensures at (c.if-not-has_value.ensures refl)) (rw locals at (c.if-not-put.ensures refl))
