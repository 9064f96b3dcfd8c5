use Rattle.std.proofs.Common.{◌∷◌, ◌∙◌, [], ap, refl, arith}
use Rattle.wasm_operators_immediates.specs.Kinds.{Plain}
use Rattle.wasm_types.specs.trees.Types.{v128}
use Rattle.wasm_operators_enums.specs.declared.vector.SimdOperator.TheVariants as simd
use Rattle.wasm_operator_validator_rules.specs.Accesses.{store}
use Rattle.wasm_operator_validator_fast_tables.specs.Stacks.{Values}
use Rattle.wasm_operator_validator_fast_objects.proofs.VectorCodes.{reaching}
use Rattle.wasm_operator_validator_fast_objects.proofs.VectorRows.{took_reach}
use Rattle.wasm_operator_validator_fast_objects.proofs.vector_memory.vector_store.Goals as goal

pub returns-clause-leads : goal.returns-clause-leads
returns-clause-leads c =
    let taken = c.if-not-take.ensures refl in
    let address = c.if-not-take-2.ensures refl in
    let last = c.take-else-not-take.new.self in
    took_reach c.args.tables.now c.args.bytes.now c.args.at c.in-Some.end c.args.opens.now.inner c.args.opens.now.outer c.args.stack.now last (store v128) c.args.code c.args.middle 4 c.in-Some.address c.requires.begins
    (reaching (λ a. simd.V128Store a) c.requires.class (λ a. refl) (λ a. refl) (λ a. refl) (λ a. refl)) c.in-Some.ensures
    (4 ∷ []) [] last.0 last.1 (λ ids. refl) (λ ids. refl) (taken ∙ ap (λ (x : Values). (4 ∷ x.0, x.1)) address) refl

pub returns-clause-forward : goal.returns-clause-forward
returns-clause-forward c = omega (arith, (c.in-Some.ensures.read Plain).forward, c.requires.begins.begins.code_there.forward)

pub returns-clause-inside : goal.returns-clause-inside
returns-clause-inside c = (c.in-Some.ensures.read Plain).inside
