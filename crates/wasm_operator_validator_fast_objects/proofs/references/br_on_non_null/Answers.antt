use Rattle.std.proofs.Common.{◌∷◌, refl}
use Rattle.wasm_operator_validator_fast_tables.specs.Stacks.{with_all}
use Rattle.wasm_operator_validator_fast_tables.proofs.Lowering.{lower_more, lowered}
use Rattle.wasm_operator_validator_fast_objects.proofs.Referring.{took_br_on_non_null}
use Rattle.wasm_operator_validator_fast_objects.proofs.references.br_on_non_null.Goals as goal

pub returns-clause-leads : goal.returns-clause-leads
returns-clause-leads c =
    let types = c.in-Some-label_at.types.now in
    let below = c.in-Some-last_of.under.now in
    let code = c.in-Some-last_of.code in
    let held = c.perhaps_null.result in
    let under = c.take_all.new.self in
    let m = with_all below under in
    lowered c.args.tables.now c.args.bytes.now c.args.at c.in-Some.end c.args.opens.now.inner c.args.opens.now.outer (c.args.opens.now.inner ∷ c.args.opens.now.outer) c.args.stack.now (held ∷ m.0, m.1) c.put_all.new.self
    (lower_more c.args.tables.now.known.order held c.args.stack.now c.take_below.new.self m (c.if-not-take_below.ensures refl) (c.if-not-take_all.ensures refl))
    (took_br_on_non_null c.args.tables.now c.args.bytes.now c.args.at c.in-Some.end c.args.opens.now.inner c.args.opens.now.outer (held ∷ m.0, m.1) c.put_all.new.self c.if-not-tables.false c.requires c.in-Some.depth c.in-Some.ensures types c.in-Some-label_at.ensures below code held c.in-Some-last_of.ensures c.if-code-lt8.false (c.perhaps_null.ensures c.if-code-lt8.false)
    under refl (c.if-not-put_all.ensures refl))
