use Rattle.std.proofs.Common.{refl, false}
use Rattle.std.proofs.lemmas.Option.{slice_get-get_or}
use Rattle.wasm_operator_validator_fast_steps.proofs.Rows.{took_global_get}
use Rattle.wasm_operator_validator_fast_steps.proofs.variables.global_get.Goals as goal

pub returns-clause-leads : goal.returns-clause-leads
returns-clause-leads c =
    took_global_get c.args.tables.now c.args.bytes.now c.args.at c.in-Some.end c.args.opens.now.inner c.args.opens.now.outer c.args.stack.now c.put.new.self c.requires c.in-Some.index c.in-Some.ensures _
    (slice_get-get_or c.args.tables.now.known.globals.items c.in-Some.index (record { ty = 0; mutable = false }) (rw c.as_slice-globals.ensures.value at c.if-index-globals.false))
    (rw c.as_slice-globals.ensures.value at c.if-held-ge-NO_CODE.false) (rw c.as_slice-globals.ensures.value at (c.if-not-put.ensures refl))
