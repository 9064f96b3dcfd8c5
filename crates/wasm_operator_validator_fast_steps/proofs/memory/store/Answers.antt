use Rattle.std.proofs.Common.{◌∷◌, ◌∙◌, ap, refl, arith}
use Rattle.wasm_operators_immediates.specs.Kinds.{Plain}
use Rattle.wasm_operator_validator_fast_tables.specs.Stacks.{Values}
use Rattle.wasm_operator_validator_fast_steps.proofs.Rows.{took_store}
use Rattle.wasm_operator_validator_fast_steps.proofs.memory.store.Goals as goal

pub returns-clause-leads : goal.returns-clause-leads
returns-clause-leads c =
    let taken = c.if-not-take.ensures refl in
    let address = c.if-not-take-2.ensures refl in
    took_store c.args.tables.now c.args.bytes.now c.args.at c.in-Some.end c.args.opens.now.inner c.args.opens.now.outer c.args.stack.now c.take-else-not-take.new.self c.args.code
    c.store_shape-natural.result.0 c.store_shape-natural.result.1 c.in-Some.address c.requires (c.store_shape-natural.ensures.access c.if-takes-ge-NO_CODE.false) c.in-Some.ensures
    c.take-else-not-take.new.self.0 c.take-else-not-take.new.self.1 (taken ∙ ap (λ (x : Values). (c.store_shape-natural.result.1 ∷ x.0, x.1)) address) refl

pub returns-clause-forward : goal.returns-clause-forward
returns-clause-forward c = omega (arith, (c.in-Some.ensures.read Plain).forward)

pub returns-clause-inside : goal.returns-clause-inside
returns-clause-inside c = (c.in-Some.ensures.read Plain).inside
