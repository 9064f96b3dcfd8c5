use Rattle.std.proofs.Common.{◌∷◌, ◌∙◌, [], ap, refl}
use Rattle.wasm_operator_validator_fast_tables.specs.Stacks.{Values}
use Rattle.wasm_operator_validator_fast_objects.proofs.VectorRows.{took_lanes}
use Rattle.wasm_operator_validator_fast_objects.proofs.vectors.shift.Goals as goal

pub returns-clause-leads : goal.returns-clause-leads
returns-clause-leads c =
    let first = c.if-not-take.ensures refl in
    let (rest, here) = c.if-not-has.ensures refl in
    took_lanes c.args.tables.now c.args.bytes.now c.args.at c.args.middle c.args.opens.now.inner c.args.opens.now.outer c.args.stack.now c.take.new.self c.args.code c.requires.begins (4 ∷ 0 ∷ []) (4 ∷ []) c.requires.class rest c.take.new.self.1
    (first ∙ ap (λ (x : Values). (0 ∷ x.0, x.1)) here) here
