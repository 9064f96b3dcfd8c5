-- What stands behind the opcodes of the group, by shape.
use Rattle.std.specs.Prelude.{List, [], ◌∷◌}
use Rattle.wasm_operators_immediates.specs.Kinds as kind
use Rattle.wasm_operators_immediates.specs.Kinds.{Kind, Tags}
use Rattle.wasm_operators_decode_control.specs.declared.exception.ExceptionShape.{ExceptionShape}
use Rattle.wasm_operators_decode_control.specs.declared.exception.ExceptionShape.TheVariants as shape

-- the kinds of immediates of each shape
abbrev pub exception_shape_kinds : ExceptionShape → List Kind
exception_shape_kinds shape.Block = kind.Block ∷ []
exception_shape_kinds shape.Tag = kind.Index Tags ∷ []
exception_shape_kinds shape.Label = kind.Label ∷ []
exception_shape_kinds shape.Nothing = []
exception_shape_kinds shape.Clauses = kind.TryTable ∷ []
