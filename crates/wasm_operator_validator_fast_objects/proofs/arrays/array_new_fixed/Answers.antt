use Rattle.std.proofs.Common.{refl, arith}
use Rattle.wasm_operator_validator_fast_objects.proofs.ArrayRows.{took_array_new_fixed}
use Rattle.wasm_operator_validator_fast_objects.proofs.arrays.array_new_fixed.Goals as goal

pub returns-clause-leads : goal.returns-clause-leads
returns-clause-leads c =
    took_array_new_fixed c.args.tables.now c.args.bytes.now c.args.at c.args.middle c.in-Some-index_at.end c.args.opens.now.inner c.args.opens.now.outer c.args.stack.now c.put.new.self c.in-Some.code c.in-Some.element c.requires
    c.in-Some.next c.in-Some.ensures c.in-Some-index_at.count c.in-Some-index_at.ensures c.take_alike.new.stack (c.if-not-take_alike.ensures refl) (c.if-not-put.ensures refl)

pub returns-clause-forward : goal.returns-clause-forward
returns-clause-forward c = omega (arith, c.requires.code_there.forward, c.in-Some.ensures.read.forward, c.in-Some-index_at.ensures.forward)

pub returns-clause-inside : goal.returns-clause-inside
returns-clause-inside c = c.in-Some-index_at.ensures.inside
