use Rattle.std.proofs.Common.{refl}
use Rattle.wasm_operator_validator_fast_objects.proofs.VectorRows.{took_shuffle}
use Rattle.wasm_operator_validator_fast_objects.proofs.vectors.shuffle.Goals as goal

pub returns-clause-leads : goal.returns-clause-leads
returns-clause-leads c =
    let (rest, taken, put) = c.if-not-combine.ensures refl in
    took_shuffle c.args.tables.now c.args.bytes.now c.args.at c.in-Some.end c.args.opens.now.inner c.args.opens.now.outer c.args.stack.now c.combine.new.self c.args.code c.args.middle c.requires.begins c.requires.class c.in-Some.ensures rest c.args.stack.now.1 taken put
