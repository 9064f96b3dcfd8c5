use Rattle.std.proofs.Common.{◌∷◌, ◌∙◌, ap, refl}
use Rattle.wasm_operator_validator_fast_tables.specs.Stacks.{Values, with_all}
use Rattle.wasm_operator_validator_fast_tables.proofs.Lowering.{lowered, lower_past}
use Rattle.wasm_operator_validator_fast_objects.proofs.Referring.{took_br_on_null}
use Rattle.wasm_operator_validator_fast_objects.proofs.references.br_on_null.Goals as goal

pub returns-clause-leads : goal.returns-clause-leads
returns-clause-leads c =
    let types = c.in-Some-label_at.types.now in
    let code = c.in-Some-top.code in
    let under = c.take_all.new.self in
    let m = with_all types under in
    lowered c.args.tables.now c.args.bytes.now c.args.at c.in-Some.end c.args.opens.now.inner c.args.opens.now.outer (c.args.opens.now.inner ∷ c.args.opens.now.outer) c.args.stack.now (code ∷ m.0, m.1) c.put.new.self
    (lower_past c.args.tables.now.known.order code c.args.stack.now c.take.new.self m (c.if-not-take.ensures refl) (c.if-not-take_all.ensures refl))
    (took_br_on_null c.args.tables.now c.args.bytes.now c.args.at c.in-Some.end c.args.opens.now.inner c.args.opens.now.outer (code ∷ m.0, m.1) c.put.new.self c.if-not-tables.false c.requires c.in-Some.depth c.in-Some.ensures types c.in-Some-label_at.ensures code c.never_null.result c.if-code-lt8.false (c.never_null.ensures c.if-code-lt8.false)
    under refl (c.if-not-put.ensures refl ∙ ap (λ (x : Values). (c.never_null.result ∷ x.0, x.1)) (c.if-not-put_all.ensures refl)))
