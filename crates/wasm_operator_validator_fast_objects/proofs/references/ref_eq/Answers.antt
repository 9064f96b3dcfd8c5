use Rattle.std.proofs.Common.{◌+◌, ◌∷◌, refl}
use Rattle.wasm_operator_validator_fast_tables.proofs.Lowering.{lower_more, lowered}
use Rattle.wasm_operator_validator_fast_objects.proofs.Referring.{took_ref_eq}
use Rattle.wasm_operator_validator_fast_objects.proofs.references.ref_eq.Goals as goal

pub returns-clause-leads : goal.returns-clause-leads
returns-clause-leads c =
    let one = c.take_below.new.self in
    let two = c.take_below-else-not-take_below.new.self in
    lowered c.args.tables.now c.args.bytes.now c.args.at (c.args.at + 1) c.args.opens.now.inner c.args.opens.now.outer (c.args.opens.now.inner ∷ c.args.opens.now.outer) c.args.stack.now (20 ∷ 20 ∷ two.0, two.1) c.put.new.self
    (lower_more c.args.tables.now.known.order 20 c.args.stack.now one (20 ∷ two.0, two.1) (c.if-not-take_below.ensures refl) (c.if-not-take_below-2.ensures refl))
    (took_ref_eq c.args.tables.now c.args.bytes.now c.args.at (c.args.at + 1) c.args.opens.now.inner c.args.opens.now.outer (20 ∷ 20 ∷ two.0, two.1) c.put.new.self c.if-not-tables.false c.requires refl two refl (c.if-not-put.ensures refl))
