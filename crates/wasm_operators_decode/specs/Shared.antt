-- What stands behind the opcodes of the group, by shape.
use Rattle.std.specs.Prelude.{List, [], ◌∷◌}
use Rattle.wasm_operators_immediates.specs.Kinds as kind
use Rattle.wasm_operators_immediates.specs.Kinds.{Kind, Fields, Globals, Tables, Types}
use Rattle.wasm_operators_decode.specs.declared.shared.SharedShape.{SharedShape}
use Rattle.wasm_operators_decode.specs.declared.shared.SharedShape.TheVariants as shape

-- the kinds of immediates of each shape
abbrev pub shared_shape_kinds : SharedShape → List Kind
shared_shape_kinds shape.OrderingGlobal = kind.MemoryOrdering ∷ kind.Index Globals ∷ []
shared_shape_kinds shape.OrderingTable = kind.MemoryOrdering ∷ kind.Index Tables ∷ []
shared_shape_kinds shape.OrderingTypeField = kind.MemoryOrdering ∷ kind.Index Types ∷ kind.Index Fields ∷ []
shared_shape_kinds shape.OrderingType = kind.MemoryOrdering ∷ kind.Index Types ∷ []
shared_shape_kinds shape.Nothing = []
