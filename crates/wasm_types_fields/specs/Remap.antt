-- Rules: the indices and the shapes of fields and of what is made of them, in order.
use Rattle.std.specs.Prelude.{List, [], ◌∷◌, ◌++◌}
use Rattle.std.specs.List.{flat_map}
use Rattle.wasm_types_values.specs.types_trees.Types as tree
use Rattle.wasm_types_values.specs.types_trees.Types.{FieldOf, InnerOf, field_map, inner_map}
use Rattle.wasm_types_values.specs.Remap.{value_indices, storage_indices}

-- of a field
abbrev pub field_indices : {R : Type 0} → FieldOf R → List R
field_indices x = storage_indices x.storage

-- a field with nothing where an index stands
abbrev pub field_shape : {R : Type 0} → FieldOf R → FieldOf (Unit {0})
field_shape = field_map (λ i. tt)

-- of a composite type: the parameters before the results
abbrev pub inner_indices : {R : Type 0} → InnerOf R → List R
inner_indices (tree.function ps rs) = flat_map value_indices ps ++ flat_map value_indices rs
inner_indices (tree.array_of x) = field_indices x
inner_indices (tree.struct_of xs) = flat_map field_indices xs
inner_indices (tree.continuation i) = i ∷ []

-- a composite type with nothing where an index stands
abbrev pub inner_shape : {R : Type 0} → InnerOf R → InnerOf (Unit {0})
inner_shape = inner_map (λ i. tt)
