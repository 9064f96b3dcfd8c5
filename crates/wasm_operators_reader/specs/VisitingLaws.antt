-- An operator on vectors leaves the frames as they are.
use Rattle.std.proofs.Common.{◌≡◌, true, List, [], ◌∷◌, Some}
use Rattle.wasm_operators_immediates.specs.declared.frames.FrameKind.{FrameKind}
use Rattle.wasm_operators_enums.specs.Op.{Op, Control, Parametric, Exception, Memory, Const, Numeric, Bulk, Gc, Descriptor, Simd}
use Rattle.wasm_operators_enums.specs.Op.{SimdNumeric, Atomic, Shared, Continuation}
use Rattle.wasm_operators_enums.specs.Vectors.{is_simd}
use Rattle.wasm_operators_encoding.specs.expressions.Frames.{after}
use Rattle.wasm_operators_reader.specs.Standing.{Standing, Reads}

same : (ks js : List FrameKind) → Some ks ≡ Some js → js ≡ ks
same ks js e = cc

simd_after : (o : Op) (ks js : List FrameKind) → is_simd o ≡ true → after o ks ≡ Some js → js ≡ ks
simd_after (Simd o) [] js v e = absurd cc
simd_after (Simd o) (k ∷ ks) js v e = same (k ∷ ks) js e
simd_after (SimdNumeric o) [] js v e = absurd cc
simd_after (SimdNumeric o) (k ∷ ks) js v e = same (k ∷ ks) js e
simd_after (Control o) ks js v e = absurd cc
simd_after (Parametric o) ks js v e = absurd cc
simd_after (Exception o) ks js v e = absurd cc
simd_after (Memory o) ks js v e = absurd cc
simd_after (Const o) ks js v e = absurd cc
simd_after (Numeric o) ks js v e = absurd cc
simd_after (Bulk o) ks js v e = absurd cc
simd_after (Gc o) ks js v e = absurd cc
simd_after (Descriptor o) ks js v e = absurd cc
simd_after (Atomic o) ks js v e = absurd cc
simd_after (Shared o) ks js v e = absurd cc
simd_after (Continuation o) ks js v e = absurd cc

pub simd_frames : (s t : Standing) (o : Op) → is_simd o ≡ true → Reads s o t → t.frames ≡ s.frames
simd_frames s t o v h = simd_after o s.frames t.frames v h.fits
