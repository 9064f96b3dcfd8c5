use Rattle.std.proofs.Common.{◌∷◌, refl, arith}
use Rattle.wasm_operator_validator_fast_tables.proofs.Lowering.{lower_more, lowered, lower_past}
use Rattle.wasm_operator_validator_fast_objects.proofs.Selecting.{took_typed_select}
use Rattle.wasm_operator_validator_fast_objects.proofs.references.select_typed.Goals as goal

pub returns-clause-leads : goal.returns-clause-leads
returns-clause-leads c =
    let code = c.in-Some-value_at.code in
    let one = c.take_below.new.self in
    let two = c.take_below-else-not-take_below.new.self in
    let order = c.args.tables.now.known.order in
    lowered c.args.tables.now c.args.bytes.now c.args.at c.in-Some-value_at.end c.args.opens.now.inner c.args.opens.now.outer (c.args.opens.now.inner ∷ c.args.opens.now.outer) c.args.stack.now (0 ∷ code ∷ code ∷ two.0, two.1) c.put.new.self
    (lower_past order 0 c.args.stack.now c.take.new.self (code ∷ code ∷ two.0, two.1) (c.if-not-take.ensures refl)
    (lower_more order code c.take.new.self one (code ∷ two.0, two.1) (c.if-not-take_below.ensures refl) (c.if-not-take_below-2.ensures refl)))
    (took_typed_select c.args.tables.now c.args.bytes.now c.args.at c.in-Some-value_at.end c.args.opens.now.inner c.args.opens.now.outer (0 ∷ code ∷ code ∷ two.0, two.1) c.put.new.self c.if-not-tables.false c.requires c.in-Some.first code c.in-Some-value_at.place
    (rw c.if-count-ne1.false at c.in-Some.ensures.found) c.in-Some-value_at.ensures two refl (c.if-not-put.ensures refl))

pub returns-clause-forward : goal.returns-clause-forward
returns-clause-forward c = omega (arith, c.in-Some.ensures.found.forward, c.in-Some-value_at.ensures.read.forward)

pub returns-clause-inside : goal.returns-clause-inside
returns-clause-inside c = c.in-Some-value_at.ensures.read.inside
