use Rattle.std.proofs.Common.{◌∷◌, ◌∙◌, ap, refl}
use Rattle.wasm_operator_validator_fast_tables.specs.Stacks.{Values}
use Rattle.wasm_operator_validator_fast_steps.proofs.Rows.{took_fill}
use Rattle.wasm_operator_validator_fast_steps.proofs.memory.memory_fill.Goals as goal

pub returns-clause-leads : goal.returns-clause-leads
returns-clause-leads c =
    let one = c.if-not-take.ensures refl in
    let two = c.if-not-take-2.ensures refl in
    let three = c.if-not-take-3.ensures refl in
    let all = one ∙ ap (λ (x : Values). (c.addresses_of-address.result ∷ x.0, x.1)) (two ∙ ap (λ (x : Values). (0 ∷ x.0, x.1)) three) in
    took_fill c.args.tables.now c.args.bytes.now c.args.at c.in-Some.end c.args.opens.now.inner c.args.opens.now.outer c.args.stack.now c.take-else-not-take-2.new.self
    c.args.middle c.in-Some.memory c.addresses_of-address.result c.requires (c.addresses_of-address.ensures c.if-address-ge-NO_CODE.false) c.in-Some.ensures.found
    c.take-else-not-take-2.new.self.0 c.take-else-not-take-2.new.self.1 all refl
