use Rattle.std.proofs.Common.{◌∙◌, sym, refl}
use Rattle.wasm_operator_validator_fast_steps.proofs.Rows.{took_data_drop}
use Rattle.wasm_operator_validator_fast_steps.proofs.memory.data_drop.Goals as goal

pub returns-clause-leads : goal.returns-clause-leads
returns-clause-leads c =
    took_data_drop c.args.tables.now c.args.bytes.now c.args.at c.in-Some.end c.args.opens.now.inner c.args.opens.now.outer c.args.stack.now c.args.stack.now
    c.args.middle c.requires
    (sym c.bulk_memory.ensures ∙ c.if-not-bulk_memory.false) c.in-Some.segment c.in-Some.ensures.found c.if-segment-tables.false refl
