use Rattle.std.proofs.Common.{◌∷◌, refl, arith}
use Rattle.wasm_operator_validator_fast_tables.proofs.Lowering.{lowered}
use Rattle.wasm_operator_validator_fast_objects.proofs.Clauses.{took_try}
use Rattle.wasm_operator_validator_fast_objects.proofs.exceptions.try_table.Goals as goal

pub returns-clause-leads : goal.returns-clause-leads
returns-clause-leads c =
    let (bt, g, typed) = c.in-Some.ensures in
    let (m, below, entered) = c.if-not-enter.ensures refl in
    lowered c.args.tables.now c.args.bytes.now c.args.at c.in-Some-catches_at.end c.args.opens.now.inner c.args.opens.now.outer (c.enter.new.opens.inner ∷ c.enter.new.opens.outer) c.args.stack.now m c.enter.new.stack below
    (took_try c.args.tables.now c.args.bytes.now c.args.at c.in-Some-catches_at.end c.args.opens.now.inner c.args.opens.now.outer m c.enter.new.stack c.if-not-tables.false c.requires bt c.in-Some.middle g c.in-Some.sig typed
    c.in-Some-short_u32_at.count c.in-Some-short_u32_at.first c.in-Some-short_u32_at.ensures.found c.if-count-gt-MOST_CLAUSES.false c.in-Some-catches_at.ensures c.enter.new.opens.inner c.enter.new.opens.outer entered)

pub returns-clause-forward : goal.returns-clause-forward
returns-clause-forward c =
    let (bt, g, typed) = c.in-Some.ensures in
    omega (arith, g.forward, c.in-Some-short_u32_at.ensures.found.forward, c.in-Some-catches_at.ensures.forward)

pub returns-clause-inside : goal.returns-clause-inside
returns-clause-inside c = c.in-Some-catches_at.ensures.inside
