-- What stands behind the opcodes of the group, by shape.
use Rattle.std.specs.Prelude.{List, [], ◌∷◌}
use Rattle.wasm_operators_immediates.specs.Kinds as kind
use Rattle.wasm_operators_immediates.specs.Kinds.{Kind, Functions, Tables, Types}
use Rattle.wasm_operators_decode_control.specs.declared.control.ControlShape.{ControlShape}
use Rattle.wasm_operators_decode_control.specs.declared.control.ControlShape.TheVariants as shape

-- the kinds of immediates of each shape
abbrev pub control_shape_kinds : ControlShape → List Kind
control_shape_kinds shape.Nothing = []
control_shape_kinds shape.Block = kind.Block ∷ []
control_shape_kinds shape.Label = kind.Label ∷ []
control_shape_kinds shape.Labels = kind.BranchTable ∷ []
control_shape_kinds shape.Function = kind.Index Functions ∷ []
control_shape_kinds shape.TypeTable = kind.Index Types ∷ kind.Index Tables ∷ []
control_shape_kinds shape.TypeTableOrZero = kind.Index Types ∷ kind.IndexOrZero Tables ∷ []
control_shape_kinds shape.Type = kind.Index Types ∷ []
