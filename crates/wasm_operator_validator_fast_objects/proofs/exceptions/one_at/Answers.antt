use Rattle.wasm_operator_validator_fast_objects.proofs.Clauses.{one_there}
use Rattle.std.proofs.Common.{refl}
use Rattle.wasm_operator_validator_fast_objects.proofs.exceptions.one_at.Goals as goal

pub returns : goal.returns
returns c =
    one_there c.args.tables.now c.args.bytes.now c.args.opens.now.inner c.args.opens.now.outer c.args.at c.in-Some-index_at.end c.args.reference c.requires c.in-Some.tag c.in-Some.middle c.in-Some-index_at.depth c.in-Some.ensures c.in-Some-index_at.ensures
    c.in-Some-tag_at.params.now c.in-Some-tag_at.ensures c.in-Some-label_at.types.now c.in-Some-label_at.ensures (c.if-not-fits_label.ensures refl)
