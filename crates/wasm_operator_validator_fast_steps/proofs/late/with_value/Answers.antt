use Rattle.std.proofs.Common.{◌≤◌, ◌<◌, ◌-◌, refl, arith}
use Rattle.wasm_operator_validator_fast_steps.proofs.LateRows.{set_more}
use Rattle.wasm_operator_validator_fast_steps.proofs.late.with_value.Goals as goal

pub returns : goal.returns
returns c =
    let t = c.args.tables.now in
    let above : t.certain ≤ c.args.index = omega (arith, c.if-index-tables.false) in
    let within : c.args.index - t.certain < 64 = omega (arith, c.if-place-ge-KEPT.false) in
    record { frame = refl; keeps = λ set full. set_more t c.args.frame.set c.args.index set full above within }
