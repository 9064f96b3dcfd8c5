use Rattle.std.proofs.Common.{◌+◌, refl}
use Rattle.wasm_operator_validator_fast_steps.proofs.Rows.{took_nop}
use Rattle.wasm_operator_validator_fast_steps.proofs.parametric.nop.Goals as goal

pub returns-clause-leads : goal.returns-clause-leads
returns-clause-leads c =
    took_nop c.args.tables.now c.args.bytes.now c.args.at (c.args.at + 1) c.args.opens.now.inner c.args.opens.now.outer c.args.stack.now c.args.stack.now c.requires refl refl
