-- What stands behind the opcodes of the group, by shape.
use Rattle.std.specs.Prelude.{List, [], ◌∷◌}
use Rattle.wasm_operators_immediates.specs.Kinds as kind
use Rattle.wasm_operators_immediates.specs.Kinds.{Kind, DataSegments, Elements, Fields, Types}
use Rattle.wasm_operators_decode_control.specs.declared.gc.GcShape.{GcShape}
use Rattle.wasm_operators_decode_control.specs.declared.gc.GcShape.TheVariants as shape

-- the kinds of immediates of each shape
abbrev pub gc_shape_kinds : GcShape → List Kind
gc_shape_kinds shape.Type = kind.Index Types ∷ []
gc_shape_kinds shape.TypeField = kind.Index Types ∷ kind.Index Fields ∷ []
gc_shape_kinds shape.TypeCount = kind.Index Types ∷ kind.Count ∷ []
gc_shape_kinds shape.TypeData = kind.Index Types ∷ kind.Index DataSegments ∷ []
gc_shape_kinds shape.TypeElement = kind.Index Types ∷ kind.Index Elements ∷ []
gc_shape_kinds shape.Nothing = []
gc_shape_kinds shape.TypeType = kind.Index Types ∷ kind.Index Types ∷ []
gc_shape_kinds shape.Heap = kind.Heap ∷ []
gc_shape_kinds shape.Cast = kind.CastBranch ∷ []
