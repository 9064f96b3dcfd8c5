use Rattle.std.proofs.Common.{◌+◌, refl}
use Rattle.wasm_operator_validator_fast_steps.proofs.Rows.{took_select}
use Rattle.wasm_operator_validator_fast_steps.proofs.parametric.select.Goals as goal

pub returns-clause-leads : goal.returns-clause-leads
returns-clause-leads c =
    let (k, few, taken, (rest, under)) = c.if-not-choose.ensures refl in
    took_select c.args.tables.now c.args.bytes.now c.args.at (c.args.at + 1) c.args.opens.now.inner c.args.opens.now.outer c.args.stack.now c.choose.new.self c.requires refl k rest few taken under
