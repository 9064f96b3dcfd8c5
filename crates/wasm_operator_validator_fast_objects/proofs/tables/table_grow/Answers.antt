use Rattle.std.proofs.Common.{◌∷◌, refl, arith}
use Rattle.wasm_operator_validator_fast_tables.proofs.Lowering.{lower_past}
use Rattle.wasm_operator_validator_fast_objects.proofs.TableRows.{took_table_grow}
use Rattle.wasm_operator_validator_fast_objects.proofs.tables.table_grow.Goals as goal

pub returns-clause-leads : goal.returns-clause-leads
returns-clause-leads c =
    let left = c.take_below.new.self in
    took_table_grow c.args.tables.now c.args.bytes.now c.args.at c.in-Some.end c.args.opens.now.inner c.args.opens.now.outer c.args.stack.now c.put.new.self
    c.args.middle c.in-Some.table c.in-Some.ensures c.requires left
    (lower_past c.args.tables.now.known.order c.in-Some.table.index c.args.stack.now c.take.new.self (c.in-Some.table.ty ∷ left.0, left.1) (c.if-not-take.ensures refl)
    (c.if-not-take_below.ensures refl))
    (c.if-not-put.ensures refl)

pub returns-clause-forward : goal.returns-clause-forward
returns-clause-forward c = omega (arith, c.requires.code_there.forward, c.in-Some.ensures.read.forward)

pub returns-clause-inside : goal.returns-clause-inside
returns-clause-inside c = c.in-Some.ensures.read.inside
