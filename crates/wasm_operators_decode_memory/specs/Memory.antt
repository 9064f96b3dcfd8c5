-- What stands behind the opcodes of the group, by shape.
use Rattle.std.specs.Prelude.{List, [], ◌∷◌}
use Rattle.wasm_operators_immediates.specs.Kinds as kind
use Rattle.wasm_operators_immediates.specs.Kinds.{Kind, Globals, Locals, Memories, Plain}
use Rattle.wasm_operators_decode_memory.specs.declared.memory.MemoryShape.{MemoryShape}
use Rattle.wasm_operators_decode_memory.specs.declared.memory.MemoryShape.TheVariants as shape

-- the kinds of immediates of each shape
abbrev pub memory_shape_kinds : MemoryShape → List Kind
memory_shape_kinds shape.Local = kind.Index Locals ∷ []
memory_shape_kinds shape.Global = kind.Index Globals ∷ []
memory_shape_kinds (shape.Access natural) = kind.MemoryArgument Plain natural ∷ []
memory_shape_kinds shape.Memory = kind.IndexOrZero Memories ∷ []
