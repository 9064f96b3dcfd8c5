use Rattle.std.proofs.Common.{◌∷◌, [], refl, sym}
use Rattle.wasm_operator_validator_fast_tables.specs.Stacks.{with_all}
use Rattle.wasm_operator_validator_fast_steps.proofs.Unreaching.{leads_same, unreached_then}
use Rattle.wasm_operator_validator_fast_steps.proofs.unreached.unreached.Goals as goal

pub returns-then-results-gt-FEW-clause-leads : goal.returns-then-results-gt-FEW-clause-leads
returns-then-results-gt-FEW-clause-leads c =
    let (rs, given) = c.if-not-give_all.ensures refl in
    unreached_then c.args.tables.now c.args.bytes.now (c.args.opens.now.inner ∷ c.args.opens.now.outer) c.args.at c.pass_away.result c.args.stack.now.1 rs c.give_all.new.stack
    c.pass_away.ensures.passed given

pub returns-clause-leads : goal.returns-clause-leads
returns-clause-leads c =
    let (rs, given) = c.if-not-give_all.ensures refl in (
      rs,
      leads_same c.args.tables.now c.args.bytes.now c.args.at (c.args.opens.now.inner ∷ c.args.opens.now.outer) (with_all rs ([], c.args.stack.now.1)) c.give_all.new.stack (sym given),
    )
