-- Those before the place are replaced.
use Rattle.std.proofs.Common.{◌≡◌, length}
use Rattle.wasm_types.specs.Entries.{declared_of}
use Rattle.wasm_types.specs.Remap.{declared_shape, declared_indices}
use Rattle.wasm_types_fields.proofs.Remapping.{SoFar}
use Rattle.wasm_types.proofs.remap.remap_types.Given as goal

abbrev pub invariant-loop-place : goal.invariant-loop-place
invariant-loop-place g l = record {
  len : length l.types ≡ length l.fn.types;
  so_far : SoFar declared_of declared_shape declared_indices (goal.F-post g l.f) l.place l.fn.types l.types;
}
