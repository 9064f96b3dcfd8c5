use Rattle.std.proofs.Common.{false}
use Rattle.std.proofs.lemmas.Option.{slice_get-get_or}
use Rattle.wasm_operator_validator_fast_objects.proofs.structs.field_named.Goals as goal

pub returns : goal.returns
returns c = record {
  middle = c.in-Some.middle;
  fields = c.in-Some.fields.now;
  struct = c.in-Some.ensures;
  place = c.in-Some-index_at.place;
  read = c.in-Some-index_at.ensures;
  at = slice_get-get_or c.in-Some.fields.now c.in-Some-index_at.place (record { code = 0; packed = false; mutable = false }) c.if-place-fields.false;
}
