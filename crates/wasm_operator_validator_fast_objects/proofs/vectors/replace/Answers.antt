use Rattle.std.proofs.Common.{◌∷◌, ◌∙◌, [], ap, refl}
use Rattle.wasm_operator_validator_fast_tables.specs.Stacks.{Values}
use Rattle.wasm_operator_validator_fast_objects.proofs.VectorRows.{took_lane}
use Rattle.wasm_operator_validator_fast_objects.proofs.vectors.replace.Goals as goal

pub returns-clause-leads : goal.returns-clause-leads
returns-clause-leads c =
    let (lanes, takes) = c.replace_shape-lanes.result in
    let first = c.if-not-take.ensures refl in
    let (rest, here) = c.if-not-has.ensures refl in
    took_lane c.args.tables.now c.args.bytes.now c.args.at c.in-Some.end c.args.opens.now.inner c.args.opens.now.outer c.args.stack.now c.take.new.self c.args.code c.args.middle lanes c.requires (4 ∷ takes ∷ []) (4 ∷ []) (c.replace_shape-lanes.ensures c.if-takes-ge-NO_CODE.false)
    c.in-Some.ensures rest c.take.new.self.1 (first ∙ ap (λ (x : Values). (takes ∷ x.0, x.1)) here) here
