use Rattle.std.proofs.Common.{◌∷◌, refl, arith}
use Rattle.wasm_operator_validator_fast_tables.proofs.Lowering.{lower_past, lower_same}
use Rattle.wasm_operator_validator_fast_objects.proofs.ArrayRows.{took_array_new_data}
use Rattle.wasm_operator_validator_fast_objects.proofs.arrays.array_new_data.Goals as goal

pub returns-clause-leads : goal.returns-clause-leads
returns-clause-leads c =
    let left = c.take-else-not-take.new.self in
    took_array_new_data c.args.tables.now c.args.bytes.now c.args.at c.args.middle c.in-Some-index_at.end c.args.opens.now.inner c.args.opens.now.outer c.args.stack.now c.put.new.self c.in-Some.code c.in-Some.element c.requires
    c.in-Some.next c.in-Some.ensures c.in-Some-index_at.segment c.in-Some-index_at.ensures c.if-element-ge8.false c.if-segment-tables.false left.0 left.1
    (lower_past c.args.tables.now.known.order 0 c.args.stack.now c.take.new.self (0 ∷ left.0, left.1) (c.if-not-take.ensures refl)
    (lower_same c.args.tables.now.known.order c.take.new.self (0 ∷ left.0, left.1) (c.if-not-take-2.ensures refl)))
    (c.if-not-put.ensures refl)

pub returns-clause-forward : goal.returns-clause-forward
returns-clause-forward c = omega (arith, c.requires.code_there.forward, c.in-Some.ensures.read.forward, c.in-Some-index_at.ensures.forward)

pub returns-clause-inside : goal.returns-clause-inside
returns-clause-inside c = c.in-Some-index_at.ensures.inside
