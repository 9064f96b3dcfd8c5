use Rattle.std.proofs.Common.{refl}
use Rattle.wasm_operator_validator_fast_steps.proofs.Rows.{took_f32_const}
use Rattle.wasm_operator_validator_fast_steps.proofs.constants.f32_const.Goals as goal

pub returns-clause-leads : goal.returns-clause-leads
returns-clause-leads c =
    took_f32_const c.args.tables.now c.args.bytes.now c.args.at c.in-Some.end c.args.opens.now.inner c.args.opens.now.outer c.args.stack.now c.put.new.self c.requires c.in-Some._value c.in-Some.ensures (c.if-not-put.ensures refl)
