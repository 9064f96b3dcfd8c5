use Rattle.std.proofs.Common.{refl, arith}
use Rattle.wasm_operator_validator_fast_objects.proofs.Referring.{took_ref_null}
use Rattle.wasm_operator_validator_fast_objects.proofs.references.ref_null.Goals as goal

pub returns-clause-leads : goal.returns-clause-leads
returns-clause-leads c =
    took_ref_null c.args.tables.now c.args.bytes.now c.args.at c.in-Some.end c.args.opens.now.inner c.args.opens.now.outer c.args.stack.now c.put.new.self c.if-not-tables.false c.requires c.in-Some.code c.in-Some.top c.in-Some.ensures (c.if-not-put.ensures refl)

pub returns-clause-forward : goal.returns-clause-forward
returns-clause-forward c = omega (arith, c.in-Some.ensures.read.forward)

pub returns-clause-inside : goal.returns-clause-inside
returns-clause-inside c = c.in-Some.ensures.read.inside
