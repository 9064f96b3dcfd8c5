use Rattle.std.proofs.Common.{◌∷◌, ◌∙◌, [], ap, refl, arith}
use Rattle.wasm_operators_immediates.specs.Kinds.{Plain}
use Rattle.wasm_operator_validator_rules.specs.Accesses.{load_lane}
use Rattle.wasm_operator_validator_fast_tables.specs.Stacks.{Values}
use Rattle.wasm_operator_validator_fast_objects.proofs.VectorRows.{took_lane_reach}
use Rattle.wasm_operator_validator_fast_objects.proofs.vector_memory.lane_load.Goals as goal

pub returns-clause-leads : goal.returns-clause-leads
returns-clause-leads c =
    let (natural, lanes) = c.lane_load_shape-natural.result in
    let first = c.if-not-take.ensures refl in
    let (rest, taken, put) = c.if-not-change.ensures refl in
    took_lane_reach c.args.tables.now c.args.bytes.now c.args.at c.in-Some-lane_end.end c.args.opens.now.inner c.args.opens.now.outer c.args.stack.now c.change.new.self load_lane c.args.code c.args.middle c.in-Some.next natural lanes c.in-Some.address c.requires
    (c.lane_load_shape-natural.ensures c.if-natural-ge-NO_ALIGNMENT.false) c.in-Some.ensures c.in-Some-lane_end.ensures
    (4 ∷ []) (4 ∷ []) rest c.take.new.self.1 (λ ids. refl) (λ ids. refl) (first ∙ ap (λ (x : Values). (4 ∷ x.0, x.1)) taken) put

pub returns-clause-forward : goal.returns-clause-forward
returns-clause-forward c = omega (arith, (c.in-Some.ensures.read Plain).forward, c.requires.begins.code_there.forward, c.in-Some-lane_end.ensures.behind)
