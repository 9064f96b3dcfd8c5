use Rattle.std.proofs.Common.{refl, arith}
use Rattle.wasm_operator_validator_fast_objects.proofs.ArrayRows.{took_array_len}
use Rattle.wasm_operator_validator_fast_objects.proofs.arrays.array_len.Goals as goal

pub returns-clause-leads : goal.returns-clause-leads
returns-clause-leads c =
    let left = c.take_below.new.self in
    took_array_len c.args.tables.now c.args.bytes.now c.args.at c.args.middle c.args.opens.now.inner c.args.opens.now.outer c.args.stack.now c.put.new.self c.requires
    c.if-not-tables.false left.0 left.1 (c.if-not-take_below.ensures refl) (c.if-not-put.ensures refl)

pub returns-clause-forward : goal.returns-clause-forward
returns-clause-forward c = omega (arith, c.requires.code_there.forward)

pub returns-clause-inside : goal.returns-clause-inside
returns-clause-inside c = c.requires.code_there.inside
