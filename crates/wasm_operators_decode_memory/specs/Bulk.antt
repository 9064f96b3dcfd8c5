-- What stands behind the opcodes of the group, by shape.
use Rattle.std.specs.Prelude.{List, [], ◌∷◌}
use Rattle.wasm_operators_immediates.specs.Kinds as kind
use Rattle.wasm_operators_immediates.specs.Kinds.{Kind, DataSegments, Elements, Memories, Tables}
use Rattle.wasm_operators_decode_memory.specs.declared.bulk.BulkShape.{BulkShape}
use Rattle.wasm_operators_decode_memory.specs.declared.bulk.BulkShape.TheVariants as shape

-- the kinds of immediates of each shape
abbrev pub bulk_shape_kinds : BulkShape → List Kind
bulk_shape_kinds shape.DataMemory = kind.Index DataSegments ∷ kind.Index Memories ∷ []
bulk_shape_kinds shape.Data = kind.Index DataSegments ∷ []
bulk_shape_kinds shape.MemoryMemory = kind.Index Memories ∷ kind.Index Memories ∷ []
bulk_shape_kinds shape.Memory = kind.Index Memories ∷ []
bulk_shape_kinds shape.ElementTable = kind.Index Elements ∷ kind.Index Tables ∷ []
bulk_shape_kinds shape.Element = kind.Index Elements ∷ []
bulk_shape_kinds shape.TableTable = kind.Index Tables ∷ kind.Index Tables ∷ []
bulk_shape_kinds shape.Table = kind.Index Tables ∷ []
