use Rattle.std.proofs.Common.{◌∷◌, refl, arith}
use Rattle.wasm_operator_validator_fast_tables.proofs.Lowering.{lowered}
use Rattle.wasm_operator_validator_fast_objects.proofs.Branching.{took_convert}
use Rattle.wasm_operator_validator_fast_objects.proofs.casts.convert.Goals as goal

pub returns-clause-leads : goal.returns-clause-leads
returns-clause-leads c =
    let m = c.take_below.new.self in
    let from = c.in-Some-with_null.from in
    let to = c.in-Some-with_null-2.to in
    lowered c.args.tables.now c.args.bytes.now c.args.at c.args.middle c.args.opens.now.inner c.args.opens.now.outer (c.args.opens.now.inner ∷ c.args.opens.now.outer) c.args.stack.now (from ∷ m.0, m.1) c.put.new.self (c.if-not-take_below.ensures refl)
    (took_convert c.args.tables.now c.args.bytes.now c.args.at c.args.middle c.args.opens.now.inner c.args.opens.now.outer (from ∷ m.0, m.1) c.put.new.self c.if-not-tables.false c.args.back _ c.requires from to
    (rw c.chosen.ensures at c.in-Some-with_null.ensures) (rw c.chosen-2.ensures at c.in-Some-with_null-2.ensures) m refl (c.if-not-put.ensures refl))

pub returns-clause-forward : goal.returns-clause-forward
returns-clause-forward c = omega (arith, c.requires.code_there.forward)

pub returns-clause-inside : goal.returns-clause-inside
returns-clause-inside c = c.requires.code_there.inside
