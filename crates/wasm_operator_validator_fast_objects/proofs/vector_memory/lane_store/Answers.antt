use Rattle.std.proofs.Common.{◌∷◌, ◌∙◌, [], ap, refl, arith}
use Rattle.wasm_operators_immediates.specs.Kinds.{Plain}
use Rattle.wasm_types.specs.trees.Types.{v128}
use Rattle.wasm_operator_validator_rules.specs.Accesses.{store}
use Rattle.wasm_operator_validator_fast_tables.specs.Stacks.{Values}
use Rattle.wasm_operator_validator_fast_objects.proofs.VectorRows.{took_lane_reach}
use Rattle.wasm_operator_validator_fast_objects.proofs.vector_memory.lane_store.Goals as goal

pub returns-clause-leads : goal.returns-clause-leads
returns-clause-leads c =
    let (natural, lanes) = c.lane_store_shape-natural.result in
    let taken = c.if-not-take.ensures refl in
    let address = c.if-not-take-2.ensures refl in
    let last = c.take-else-not-take.new.self in
    took_lane_reach c.args.tables.now c.args.bytes.now c.args.at c.in-Some-lane_end.end c.args.opens.now.inner c.args.opens.now.outer c.args.stack.now last (store v128) c.args.code c.args.middle c.in-Some.next natural lanes c.in-Some.address c.requires
    (c.lane_store_shape-natural.ensures c.if-natural-ge-NO_ALIGNMENT.false) c.in-Some.ensures c.in-Some-lane_end.ensures
    (4 ∷ []) [] last.0 last.1 (λ ids. refl) (λ ids. refl) (taken ∙ ap (λ (x : Values). (4 ∷ x.0, x.1)) address) refl

pub returns-clause-forward : goal.returns-clause-forward
returns-clause-forward c = omega (arith, (c.in-Some.ensures.read Plain).forward, c.requires.begins.code_there.forward, c.in-Some-lane_end.ensures.behind)
