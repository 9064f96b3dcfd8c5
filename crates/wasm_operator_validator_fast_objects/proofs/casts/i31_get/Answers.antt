use Rattle.std.proofs.Common.{◌∷◌, refl, arith}
use Rattle.wasm_operator_validator_fast_tables.proofs.Lowering.{lowered}
use Rattle.wasm_operator_validator_fast_objects.proofs.Casting.{took_i31_get}
use Rattle.wasm_operator_validator_fast_objects.proofs.casts.i31_get.Goals as goal

pub returns-clause-leads : goal.returns-clause-leads
returns-clause-leads c =
    let m = c.take_below.new.self in
    lowered c.args.tables.now c.args.bytes.now c.args.at c.args.middle c.args.opens.now.inner c.args.opens.now.outer (c.args.opens.now.inner ∷ c.args.opens.now.outer) c.args.stack.now (26 ∷ m.0, m.1) c.put.new.self (c.if-not-take_below.ensures refl)
    (took_i31_get c.args.tables.now c.args.bytes.now c.args.at c.args.middle c.args.opens.now.inner c.args.opens.now.outer (26 ∷ m.0, m.1) c.put.new.self c.if-not-tables.false c.args.signed c.requires m refl (c.if-not-put.ensures refl))

pub returns-clause-forward : goal.returns-clause-forward
returns-clause-forward c = omega (arith, c.requires.code_there.forward)

pub returns-clause-inside : goal.returns-clause-inside
returns-clause-inside c = c.requires.code_there.inside
