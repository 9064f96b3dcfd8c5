use Rattle.std.proofs.Common.{◌∙◌, false, sym, refl, arith}
use Rattle.wasm_operator_validator_fast_objects.proofs.AtomicRows.{took_fence}
use Rattle.wasm_operator_validator_fast_objects.proofs.atomics.fence.Goals as goal

pub returns-clause-leads : goal.returns-clause-leads
returns-clause-leads c =
    took_fence c.args.tables.now c.args.bytes.now c.args.at c.in-Some.end c.args.opens.now.inner c.args.opens.now.outer c.args.stack.now c.args.stack.now
    c.args.middle c.in-Some._zero c.requires (sym c.threads.ensures ∙ c.if-not-threads.false) (c.in-Some.ensures.1 false) refl

pub returns-clause-forward : goal.returns-clause-forward
returns-clause-forward c = omega (arith, c.requires.code_there.forward, (c.in-Some.ensures.1 false).forward)

pub returns-clause-inside : goal.returns-clause-inside
returns-clause-inside c = (c.in-Some.ensures.1 false).inside
