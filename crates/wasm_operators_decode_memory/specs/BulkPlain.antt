-- What stands behind the opcodes of the group, by shape.
use Rattle.std.specs.Prelude.{List, [], ◌∷◌}
use Rattle.wasm_operators_immediates.specs.Kinds as kind
use Rattle.wasm_operators_immediates.specs.Kinds.{Kind, Functions, Tables}
use Rattle.wasm_operators_decode_memory.specs.declared.bulk_plain.BulkPlainShape.{BulkPlainShape}
use Rattle.wasm_operators_decode_memory.specs.declared.bulk_plain.BulkPlainShape.TheVariants as shape

-- the kinds of immediates of each shape
abbrev pub bulk_plain_shape_kinds : BulkPlainShape → List Kind
bulk_plain_shape_kinds shape.Table = kind.Index Tables ∷ []
bulk_plain_shape_kinds shape.Heap = kind.Heap ∷ []
bulk_plain_shape_kinds shape.Nothing = []
bulk_plain_shape_kinds shape.Function = kind.Index Functions ∷ []
