use Rattle.std.proofs.Common.{false}
use Rattle.std.proofs.lemmas.Option.{slice_get-get_or}
use Rattle.wasm_operator_validator_fast_objects.proofs.structs.near_field_named.Goals as goal

pub returns : goal.returns
returns c = record {
  middle = c.in-Some.middle;
  fields = c.in-Some-struct_at.fields.now;
  struct = record { type = c.in-Some.index; read = c.in-Some.ensures; is = c.in-Some-struct_at.ensures };
  place = c.in-Some-near_index_at.place;
  read = c.in-Some-near_index_at.ensures;
  at = slice_get-get_or c.in-Some-struct_at.fields.now c.in-Some-near_index_at.place (record { code = 0; packed = false; mutable = false })
      c.if-place-fields.false;
}
