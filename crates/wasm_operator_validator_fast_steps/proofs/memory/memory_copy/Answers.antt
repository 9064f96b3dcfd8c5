use Rattle.std.proofs.Common.{◌∷◌, ◌∙◌, ap, refl}
use Rattle.wasm_operator_validator_fast_tables.specs.Stacks.{Values}
use Rattle.wasm_operator_validator_fast_steps.proofs.Rows.{took_copy}
use Rattle.wasm_operator_validator_fast_steps.proofs.memory.memory_copy.Goals as goal

pub returns-clause-leads : goal.returns-clause-leads
returns-clause-leads c =
    let one = c.if-not-take.ensures refl in
    let two = c.if-not-take-2.ensures refl in
    let three = c.if-not-take-3.ensures refl in
    let all = one ∙ ap (λ (x : Values). (c.shorter-least.result ∷ x.0, x.1)) (two ∙ ap (λ (x : Values). (c.addresses_of-source.result ∷ x.0, x.1)) three) in
    took_copy c.args.tables.now c.args.bytes.now c.args.at c.in-Some-short_u32_at.end c.args.opens.now.inner c.args.opens.now.outer c.args.stack.now c.take-else-not-take-2.new.self
    c.args.middle c.in-Some.next c.requires c.in-Some.to c.in-Some-short_u32_at.from c.addresses_of-target.result c.addresses_of-source.result c.shorter-least.result
    c.in-Some.ensures.found c.in-Some-short_u32_at.ensures.found (c.addresses_of-target.ensures c.if-target-ge-NO_CODE.false) (c.addresses_of-source.ensures c.if-source-ge-NO_CODE.false)
    c.shorter-least.ensures c.take-else-not-take-2.new.self.0 c.take-else-not-take-2.new.self.1 all refl
