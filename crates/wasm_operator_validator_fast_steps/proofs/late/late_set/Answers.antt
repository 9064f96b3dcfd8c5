use Rattle.std.proofs.Common.{◌∷◌, get_or, refl, sym, subst}
use Rattle.wasm_operator_validator_fast_tables.specs.Nested.{Nested}
use Rattle.wasm_operator_validator_fast_tables.specs.Loop.{Leads}
use Rattle.wasm_operator_validator_fast_tables.proofs.Lowering.{lowered}
use Rattle.wasm_operator_validator_fast_steps.proofs.LateRows.{took_late_set}
use Rattle.wasm_operator_validator_fast_steps.proofs.late.late_set.Goals as goal

pub returns-clause-leads : goal.returns-clause-leads
returns-clause-leads c =
    let t = c.args.tables.now in
    let o = c.args.opens.now.inner in
    let outer = c.args.opens.now.outer in
    let locals = c.as_slice-locals.ensures.value in
    let k = get_or t.locals.items c.in-Some.index 0 in
    let w = c.take_below.new.self in
    let n = c.with_value-frame.result in
    subst (λ (q : Nested). Leads c.args.bytes.now t c.args.at (o ∷ outer) c.args.stack.now c.in-Some.end (q.inner ∷ q.outer) w) (sym c.turn.ensures)
    (lowered t c.args.bytes.now c.args.at c.in-Some.end o outer (n ∷ outer) c.args.stack.now (k ∷ w.0, w.1) w (rw locals at (c.if-not-take_below.ensures refl))
    (took_late_set t c.args.bytes.now c.args.at c.in-Some.end o outer (k ∷ w.0, w.1) w n c.requires c.in-Some.index c.in-Some.ensures
    (rw locals at c.if-index-locals.false) refl (rw c.inner.ensures at c.with_value-frame.ensures)))
