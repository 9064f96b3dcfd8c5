use Rattle.std.proofs.Common.{◌∷◌, [], ◌+◌, refl}
use Rattle.wasm_operator_validator_fast_tables.specs.Stacks.{with_all}
use Rattle.wasm_operator_validator_fast_steps.proofs.Rows.{took_unreachable}
use Rattle.wasm_operator_validator_fast_steps.proofs.Unreaching.{leads_then}
use Rattle.wasm_operator_validator_fast_steps.proofs.parametric.unreachable.Goals as goal

pub returns-clause-leads : goal.returns-clause-leads
returns-clause-leads c =
    let opens = c.args.opens.now.inner ∷ c.args.opens.now.outer in
    let (rs, onwards) = c.in-Some.ensures.leads in
    let after = with_all rs ([], c.args.stack.now.1) in
    leads_then c.args.tables.now c.args.bytes.now c.args.at (c.args.at + 1) c.in-Some.next opens opens opens c.args.stack.now after c.unreached.new.stack
    (took_unreachable c.args.tables.now c.args.bytes.now c.args.at (c.args.at + 1) c.args.opens.now.inner c.args.opens.now.outer c.args.stack.now after c.requires refl rs refl) onwards
