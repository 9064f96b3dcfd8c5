use Rattle.std.proofs.Common.{refl, arith}
use Rattle.wasm_operator_validator_fast_objects.proofs.TableRows.{took_table_get}
use Rattle.wasm_operator_validator_fast_objects.proofs.tables.table_get.Goals as goal

pub returns-clause-leads : goal.returns-clause-leads
returns-clause-leads c =
    let (rest, taken, put) = c.if-not-change.ensures refl in
    took_table_get c.args.tables.now c.args.bytes.now c.args.at c.in-Some.end c.args.opens.now.inner c.args.opens.now.outer c.args.stack.now
    c.change.new.self c.in-Some.table c.in-Some.ensures c.requires rest taken put

pub returns-clause-forward : goal.returns-clause-forward
returns-clause-forward c = omega (arith, c.in-Some.ensures.read.forward)

pub returns-clause-inside : goal.returns-clause-inside
returns-clause-inside c = c.in-Some.ensures.read.inside
