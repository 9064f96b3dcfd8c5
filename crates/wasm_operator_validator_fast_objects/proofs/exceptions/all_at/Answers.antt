use Rattle.wasm_operator_validator_fast_objects.proofs.Clauses.{all_there}
use Rattle.std.proofs.Common.{refl}
use Rattle.wasm_operator_validator_fast_objects.proofs.exceptions.all_at.Goals as goal

pub returns : goal.returns
returns c =
    all_there c.args.tables.now c.args.bytes.now c.args.opens.now.inner c.args.opens.now.outer c.args.at c.in-Some.end c.args.reference c.requires c.in-Some.depth c.in-Some.ensures c.in-Some-label_at.types.now c.in-Some-label_at.ensures (c.if-not-fits_label.ensures refl)
