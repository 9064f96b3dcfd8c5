use Rattle.std.proofs.Common.{◌∷◌, [], refl}
use Rattle.wasm_operator_validator_fast_objects.proofs.VectorRows.{took_lanes}
use Rattle.wasm_operator_validator_fast_objects.proofs.vectors.binary.Goals as goal

pub returns-clause-leads : goal.returns-clause-leads
returns-clause-leads c =
    let (rest, taken, put) = c.if-not-combine.ensures refl in
    took_lanes c.args.tables.now c.args.bytes.now c.args.at c.args.middle c.args.opens.now.inner c.args.opens.now.outer c.args.stack.now c.combine.new.self c.args.code c.requires.begins (4 ∷ 4 ∷ []) (4 ∷ []) c.requires.class rest c.args.stack.now.1 taken put
