-- What stands behind the opcodes of the group, by shape.
use Rattle.std.specs.Prelude.{List, [], ◌∷◌}
use Rattle.wasm_operators_immediates.specs.Kinds as kind
use Rattle.wasm_operators_immediates.specs.Kinds.{Kind}
use Rattle.wasm_operators_decode_control.specs.declared.parametric.ParametricShape.{ParametricShape}
use Rattle.wasm_operators_decode_control.specs.declared.parametric.ParametricShape.TheVariants as shape

-- the kinds of immediates of each shape
abbrev pub parametric_shape_kinds : ParametricShape → List Kind
parametric_shape_kinds shape.Nothing = []
parametric_shape_kinds shape.Types = kind.ValueTypes ∷ []
