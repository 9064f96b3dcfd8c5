-- What stands behind the opcodes of the group, by shape.
use Rattle.std.specs.Prelude.{List, [], ◌∷◌}
use Rattle.wasm_operators_immediates.specs.Kinds as kind
use Rattle.wasm_operators_immediates.specs.Kinds.{Kind, Plain}
use Rattle.wasm_operators_decode.specs.declared.simd.SimdShape.{SimdShape}
use Rattle.wasm_operators_decode.specs.declared.simd.SimdShape.TheVariants as shape

-- the kinds of immediates of each shape
abbrev pub simd_shape_kinds : SimdShape → List Kind
simd_shape_kinds (shape.Access natural) = kind.MemoryArgument Plain natural ∷ []
simd_shape_kinds shape.Vector = kind.V128Constant ∷ []
simd_shape_kinds shape.Shuffle = kind.Lanes ∷ []
simd_shape_kinds (shape.Lane lanes) = kind.Lane lanes ∷ []
simd_shape_kinds (shape.AccessLane natural lanes) = kind.MemoryArgument Plain natural ∷ kind.Lane lanes ∷ []
