use Rattle.std.proofs.Common.{◌∷◌, [], refl, arith}
use Rattle.wasm_operators_immediates.specs.Kinds.{Plain}
use Rattle.wasm_types.specs.trees.Types.{v128}
use Rattle.wasm_operator_validator_rules.specs.Accesses.{load}
use Rattle.wasm_operator_validator_fast_objects.proofs.VectorRows.{took_reach}
use Rattle.wasm_operator_validator_fast_objects.proofs.vector_memory.vector_load.Goals as goal

pub returns-clause-leads : goal.returns-clause-leads
returns-clause-leads c =
    let natural = c.vector_load_shape-natural.result in
    let (rest, taken, put) = c.if-not-change.ensures refl in
    took_reach c.args.tables.now c.args.bytes.now c.args.at c.in-Some.end c.args.opens.now.inner c.args.opens.now.outer c.args.stack.now c.change.new.self (load v128) c.args.code c.args.middle natural c.in-Some.address c.requires (c.vector_load_shape-natural.ensures c.if-natural-ge-NO_ALIGNMENT.false)
    c.in-Some.ensures [] (4 ∷ []) rest c.args.stack.now.1 (λ ids. refl) (λ ids. refl) taken put

pub returns-clause-forward : goal.returns-clause-forward
returns-clause-forward c = omega (arith, (c.in-Some.ensures.read Plain).forward, c.requires.begins.code_there.forward)

pub returns-clause-inside : goal.returns-clause-inside
returns-clause-inside c = (c.in-Some.ensures.read Plain).inside
