use Rattle.std.proofs.Common.{◌+◌, refl}
use Rattle.wasm_operator_validator_fast_steps.proofs.Rows.{took_drop}
use Rattle.wasm_operator_validator_fast_steps.proofs.parametric.drop_top.Goals as goal

pub returns-clause-leads : goal.returns-clause-leads
returns-clause-leads c =
    let (k, taken) = c.if-not-forget.ensures refl in
    took_drop c.args.tables.now c.args.bytes.now c.args.at (c.args.at + 1) c.args.opens.now.inner c.args.opens.now.outer c.args.stack.now c.forget.new.self c.requires refl k taken
