-- Those before the place are replaced.
use Rattle.std.proofs.Common.{◌≡◌, length, [], ◌∷◌}
use Rattle.wasm_types_fields.proofs.Remapping.{SoFar}
use Rattle.wasm_types.proofs.remap.remap_list.Given as goal

abbrev pub invariant-loop-place : goal.invariant-loop-place
invariant-loop-place g l = record {
  len : length l.indices ≡ length l.fn.indices;
  so_far : SoFar (λ i. i) (λ i. tt {0}) (λ i. i ∷ []) (goal.F-post g l.f) l.place l.fn.indices l.indices;
}
