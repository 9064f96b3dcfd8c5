use Rattle.std.proofs.Common.{◌∷◌, [], refl}
use Rattle.wasm_operator_validator_fast_objects.proofs.VectorRows.{took_lane}
use Rattle.wasm_operator_validator_fast_objects.proofs.vectors.extract.Goals as goal

pub returns-clause-leads : goal.returns-clause-leads
returns-clause-leads c =
    let (lanes, gives) = c.extract_shape-lanes.result in
    let (rest, taken, put) = c.if-not-change.ensures refl in
    took_lane c.args.tables.now c.args.bytes.now c.args.at c.in-Some.end c.args.opens.now.inner c.args.opens.now.outer c.args.stack.now c.change.new.self c.args.code c.args.middle lanes c.requires (4 ∷ []) (gives ∷ []) (c.extract_shape-lanes.ensures c.if-gives-ge-NO_CODE.false)
    c.in-Some.ensures rest c.args.stack.now.1 taken put
