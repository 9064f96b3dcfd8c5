use Rattle.std.proofs.Common.{refl}
use Rattle.std.proofs.lemmas.Option.{slice_get-get_or}
use Rattle.wasm_operator_validator_fast_steps.proofs.Rows.{goes_through}
use Rattle.wasm_operator_validator_fast_steps.proofs.calls.calls_through_another.Goals as goal

pub returns : goal.returns
returns c =
    let held = c.as_slice-held.ensures.value in
    λ lt. rw held (goes_through c.args.tables.now c.args.table _
    (slice_get-get_or c.args.tables.now.known.tables.items c.args.table (record { ty = 0; index = 0 }) (rw held at c.if-index-held.false))
    (rw held at c.if-it-ge-NO_CODE.false) (rw held at (c.if-not-may_be_taken.ensures refl)))
