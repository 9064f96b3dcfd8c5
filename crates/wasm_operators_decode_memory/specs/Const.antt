-- What stands behind the opcodes of the group, by shape.
use Rattle.std.specs.Prelude.{List, [], ◌∷◌}
use Rattle.wasm_operators_immediates.specs.Kinds as kind
use Rattle.wasm_operators_immediates.specs.Kinds.{Kind}
use Rattle.wasm_operators_decode_memory.specs.declared.constant.ConstShape.{ConstShape}
use Rattle.wasm_operators_decode_memory.specs.declared.constant.ConstShape.TheVariants as shape

-- the kinds of immediates of each shape
abbrev pub const_shape_kinds : ConstShape → List Kind
const_shape_kinds shape.I32 = kind.I32Constant ∷ []
const_shape_kinds shape.I64 = kind.I64Constant ∷ []
const_shape_kinds shape.F32 = kind.F32Constant ∷ []
const_shape_kinds shape.F64 = kind.F64Constant ∷ []
