-- Those before the place are replaced.
use Rattle.std.proofs.Common.{◌≡◌, length}
use Rattle.wasm_types_values.specs.Values.{value_of}
use Rattle.wasm_types_values.specs.Remap.{value_shape, value_indices}
use Rattle.wasm_types_fields.proofs.Remapping.{SoFar}
use Rattle.wasm_types_fields.proofs.remap.remap_values.Given as goal

abbrev pub invariant-loop-place : goal.invariant-loop-place
invariant-loop-place g l = record {
  len : length l.types ≡ length l.fn.types;
  so_far : SoFar value_of value_shape value_indices (goal.F-post g l.f) l.place l.fn.types l.types;
}
