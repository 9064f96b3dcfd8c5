-- Those before the place are replaced.
use Rattle.std.proofs.Common.{◌≡◌, length}
use Rattle.wasm_types_fields.specs.Fields.{field_of}
use Rattle.wasm_types_fields.specs.Remap.{field_shape, field_indices}
use Rattle.wasm_types_fields.proofs.Remapping.{SoFar}
use Rattle.wasm_types_fields.proofs.remap.remap_fields.Given as goal

abbrev pub invariant-loop-place : goal.invariant-loop-place
invariant-loop-place g l = record {
  len : length l.fields ≡ length l.fn.fields;
  so_far : SoFar field_of field_shape field_indices (goal.F-post g l.f) l.place l.fn.fields l.fields;
}
