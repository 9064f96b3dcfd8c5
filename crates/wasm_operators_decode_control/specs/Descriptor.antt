-- What stands behind the opcodes of the group, by shape.
use Rattle.std.specs.Prelude.{List, [], ◌∷◌}
use Rattle.wasm_operators_immediates.specs.Kinds as kind
use Rattle.wasm_operators_immediates.specs.Kinds.{Kind, Types}
use Rattle.wasm_operators_decode_control.specs.declared.descriptor.DescriptorShape.{DescriptorShape}
use Rattle.wasm_operators_decode_control.specs.declared.descriptor.DescriptorShape.TheVariants as shape

-- the kinds of immediates of each shape
abbrev pub descriptor_shape_kinds : DescriptorShape → List Kind
descriptor_shape_kinds shape.Type = kind.Index Types ∷ []
descriptor_shape_kinds shape.Heap = kind.Heap ∷ []
descriptor_shape_kinds shape.Cast = kind.CastBranch ∷ []
