use Rattle.std.proofs.Common.{◌∷◌, refl, sym, subst}
use Rattle.wasm_operator_validator_fast_tables.specs.Nested.{Nested}
use Rattle.wasm_operator_validator_fast_tables.specs.Loop.{Leads}
use Rattle.wasm_operator_validator_fast_tables.proofs.Lowering.{lowered}
use Rattle.wasm_operator_validator_fast_steps.proofs.LateRows.{took_late_tee}
use Rattle.wasm_operator_validator_fast_steps.proofs.late.late_tee.Goals as goal

pub returns-clause-leads : goal.returns-clause-leads
returns-clause-leads c =
    let t = c.args.tables.now in
    let o = c.args.opens.now.inner in
    let outer = c.args.opens.now.outer in
    let locals = c.as_slice-locals.ensures.value in
    let (rest, put, below) = rw locals at (c.if-not-change_below.ensures refl) in
    let w = c.change_below.new.self in
    let n = c.with_value-frame.result in
    subst (λ (q : Nested). Leads c.args.bytes.now t c.args.at (o ∷ outer) c.args.stack.now c.in-Some.end (q.inner ∷ q.outer) w) (sym c.turn.ensures)
    (lowered t c.args.bytes.now c.args.at c.in-Some.end o outer (n ∷ outer) c.args.stack.now w w below
    (took_late_tee t c.args.bytes.now c.args.at c.in-Some.end o outer w w n c.requires c.in-Some.index c.in-Some.ensures
    (rw locals at c.if-index-locals.false) rest put refl (rw c.inner.ensures at c.with_value-frame.ensures)))
