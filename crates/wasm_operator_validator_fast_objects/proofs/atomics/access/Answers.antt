use Rattle.std.proofs.Common.{◌∙◌, sym, refl, arith}
use Rattle.wasm_operators_immediates.specs.Kinds.{Plain}
use Rattle.wasm_operator_validator_fast_objects.proofs.AtomicRows.{took_atomic}
use Rattle.wasm_operator_validator_fast_objects.proofs.atomics.access.Goals as goal

pub returns-clause-leads : goal.returns-clause-leads
returns-clause-leads c =
    took_atomic c.args.tables.now c.args.bytes.now c.args.at c.in-Some.end c.args.opens.now.inner c.args.opens.now.outer c.args.stack.now c.exchange.new.stack
    c.args.code c.args.middle c.shape_of-natural.result.0 c.in-Some.address c.shape_of-natural.result.2 c.shape_of-natural.result.1 c.requires
    (sym c.threads.ensures ∙ c.if-not-threads.false) (c.shape_of-natural.ensures.access c.if-ty-ge-NO_CODE.false) c.if-flags-natural.false c.in-Some.ensures
    (c.if-not-exchange.ensures refl)

pub returns-clause-forward : goal.returns-clause-forward
returns-clause-forward c = omega (arith, c.requires.code_there.forward, (c.in-Some.ensures.read Plain).forward)

pub returns-clause-inside : goal.returns-clause-inside
returns-clause-inside c = (c.in-Some.ensures.read Plain).inside
