use Rattle.std.proofs.Common.{refl, arith}
use Rattle.wasm_operator_validator_fast_objects.proofs.Casting.{took_ref_i31}
use Rattle.wasm_operator_validator_fast_objects.proofs.casts.ref_i31.Goals as goal

pub returns-clause-leads : goal.returns-clause-leads
returns-clause-leads c =
    let (rest, taken, put) = c.if-not-change.ensures refl in
    took_ref_i31 c.args.tables.now c.args.bytes.now c.args.at c.args.middle c.args.opens.now.inner c.args.opens.now.outer c.args.stack.now c.change.new.self c.if-not-tables.false c.requires rest taken put

pub returns-clause-forward : goal.returns-clause-forward
returns-clause-forward c = omega (arith, c.requires.code_there.forward)

pub returns-clause-inside : goal.returns-clause-inside
returns-clause-inside c = c.requires.code_there.inside
