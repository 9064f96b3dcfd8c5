use Rattle.std.proofs.Common.{◌∷◌, ◌∙◌, ap, sym, refl}
use Rattle.wasm_operator_validator_fast_tables.specs.Stacks.{Values}
use Rattle.wasm_operator_validator_fast_steps.proofs.Rows.{took_init}
use Rattle.wasm_operator_validator_fast_steps.proofs.memory.memory_init.Goals as goal

pub returns-clause-leads : goal.returns-clause-leads
returns-clause-leads c =
    let one = c.if-not-take.ensures refl in
    let two = c.if-not-take-2.ensures refl in
    let three = c.if-not-take-3.ensures refl in
    let all = one ∙ ap (λ (x : Values). (0 ∷ x.0, x.1)) (two ∙ ap (λ (x : Values). (0 ∷ x.0, x.1)) three) in
    took_init c.args.tables.now c.args.bytes.now c.args.at c.in-Some-short_u32_at.end c.args.opens.now.inner c.args.opens.now.outer c.args.stack.now
    c.take-else-not-take-2.new.self c.args.middle c.in-Some.next c.in-Some-short_u32_at.memory c.addresses_of-address.result c.requires
    (c.addresses_of-address.ensures c.if-address-ge-NO_CODE.false) (sym c.bulk_memory.ensures ∙ c.if-not-bulk_memory.false) c.in-Some.segment c.in-Some.ensures.found
    c.in-Some-short_u32_at.ensures.found c.if-segment-tables.false
    c.take-else-not-take-2.new.self.0 c.take-else-not-take-2.new.self.1 all refl
