use Rattle.std.proofs.Common.{◌∷◌, get_or, refl, false}
use Rattle.std.proofs.lemmas.Option.{slice_get-get_or}
use Rattle.wasm_operator_validator_fast_tables.proofs.Lowering.{lowered}
use Rattle.wasm_operator_validator_fast_steps.proofs.Rows.{took_global_set, not_not}
use Rattle.wasm_operator_validator_fast_steps.proofs.variables.global_set.Goals as goal

pub returns-clause-leads : goal.returns-clause-leads
returns-clause-leads c =
    let globals = c.as_slice-globals.ensures.value in
    let w = c.take_below.new.self in
    lowered c.args.tables.now c.args.bytes.now c.args.at c.in-Some.end c.args.opens.now.inner c.args.opens.now.outer (c.args.opens.now.inner ∷ c.args.opens.now.outer) c.args.stack.now ((get_or c.args.tables.now.known.globals.items c.in-Some.index (record { ty = 0; mutable = false })).ty ∷ w.0, w.1) w (rw globals at (c.if-not-take_below.ensures refl))
    (took_global_set c.args.tables.now c.args.bytes.now c.args.at c.in-Some.end c.args.opens.now.inner c.args.opens.now.outer ((get_or c.args.tables.now.known.globals.items c.in-Some.index (record { ty = 0; mutable = false })).ty ∷ w.0, w.1) w c.requires c.in-Some.index c.in-Some.ensures _
    (slice_get-get_or c.args.tables.now.known.globals.items c.in-Some.index (record { ty = 0; mutable = false }) (rw globals at c.if-index-globals.false))
    (rw globals at c.if-held-ge-NO_CODE.false) (not_not _ (rw globals at c.if-not-held.false)) refl)
