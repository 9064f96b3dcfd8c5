use Rattle.std.proofs.Common.{◌∷◌, refl, arith}
use Rattle.wasm_operator_validator_fast_tables.proofs.Lowering.{lower_more, lower_past, lower_same}
use Rattle.wasm_operator_validator_fast_objects.proofs.TableRows.{took_table_fill}
use Rattle.wasm_operator_validator_fast_objects.proofs.tables.table_fill.Goals as goal

pub returns-clause-leads : goal.returns-clause-leads
returns-clause-leads c =
    let count = c.take.new.self in
    let held = c.take_below.new.self in
    let left = c.take-else-not-take_below.new.self in
    let order = c.args.tables.now.known.order in
    took_table_fill c.args.tables.now c.args.bytes.now c.args.at c.in-Some.end c.args.opens.now.inner c.args.opens.now.outer c.args.stack.now left
    c.args.middle c.in-Some.table c.in-Some.ensures c.requires
    (lower_past order c.in-Some.table.index c.args.stack.now count (c.in-Some.table.ty ∷ c.in-Some.table.index ∷ left.0, left.1) (c.if-not-take.ensures refl)
    (lower_more order c.in-Some.table.ty count held (c.in-Some.table.index ∷ left.0, left.1) (c.if-not-take_below.ensures refl)
    (lower_same order held (c.in-Some.table.index ∷ left.0, left.1) (c.if-not-take-2.ensures refl))))

pub returns-clause-forward : goal.returns-clause-forward
returns-clause-forward c = omega (arith, c.requires.code_there.forward, c.in-Some.ensures.read.forward)

pub returns-clause-inside : goal.returns-clause-inside
returns-clause-inside c = c.in-Some.ensures.read.inside
