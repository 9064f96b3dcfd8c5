-- What stands behind the opcodes of the group, by shape.
use Rattle.std.specs.Prelude.{List, [], ◌∷◌}
use Rattle.wasm_operators_immediates.specs.Kinds as kind
use Rattle.wasm_operators_immediates.specs.Kinds.{Kind, Tags, Types}
use Rattle.wasm_operators_decode_control.specs.declared.continuation.ContinuationShape.{ContinuationShape}
use Rattle.wasm_operators_decode_control.specs.declared.continuation.ContinuationShape.TheVariants as shape

-- the kinds of immediates of each shape
abbrev pub continuation_shape_kinds : ContinuationShape → List Kind
continuation_shape_kinds shape.Type = kind.Index Types ∷ []
continuation_shape_kinds shape.TypeType = kind.Index Types ∷ kind.Index Types ∷ []
continuation_shape_kinds shape.Tag = kind.Index Tags ∷ []
continuation_shape_kinds shape.TypeHandlers = kind.Index Types ∷ kind.Handlers ∷ []
continuation_shape_kinds shape.TypeTagHandlers = kind.Index Types ∷ kind.Index Tags ∷ kind.Handlers ∷ []
continuation_shape_kinds shape.TypeTag = kind.Index Types ∷ kind.Index Tags ∷ []
