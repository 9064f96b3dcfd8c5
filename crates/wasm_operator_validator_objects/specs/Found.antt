-- What checks look up: types of the module, their fields and elements, and heap types that code writes.
use Rattle.std.specs.Prelude.{◌≡◌, ℕ, Bool, true, false, List, [], ◌∷◌, ◌&&◌, map, Option, Some, option_map}
use Rattle.wasm_types.specs.trees.declared.index.UnpackedIndex.TheVariants as index
use Rattle.wasm_types.specs.trees.Types.{HeapOf, concrete, exact, StorageOf, storage_map, FieldOf, field_map, EntryOf}
use Rattle.wasm_types.specs.trees.Trees.{TypeTree, opened}
use Rattle.wasm_types.specs.trees.Below.{Below}
use Rattle.wasm_types.specs.trees.ValidGroup.{type_at}
use Rattle.wasm_types.specs.values.declared.heap.HeapType.{HeapType}
use Rattle.wasm_types.specs.values.declared.heap.HeapType.TheVariants as heap
use Rattle.wasm_types.specs.values.declared.value.StorageType.{StorageType}
use Rattle.wasm_types.specs.values.declared.value.StorageType.TheVariants as storage
use Rattle.wasm_types.specs.values.declared.value.ValType.{ValType}
use Rattle.wasm_types.specs.values.declared.value.ValType.TheVariants as vals
use Rattle.wasm_types.specs.values.Reference.{Reference}
use Rattle.wasm_types.specs.values.ValueKinds.{is_reference, is_defaultable_type, unpacked_type}
use Rattle.wasm_types.specs.values.Values.{storage_of}
use Rattle.wasm_types.specs.fields.declared.field.FieldType.{FieldType}
use Rattle.wasm_types.specs.fields.declared.field.StructType.{StructType}
use Rattle.wasm_types.specs.fields.declared.field.ArrayType.{ArrayType}
use Rattle.wasm_types.specs.fields.Fields.{field_of}
use Rattle.wasm_types.specs.declared.composite.CompositeInnerType.{CompositeInnerType}
use Rattle.wasm_types.specs.Kinds.{struct_in, array_in}
use Rattle.wasm_operator_validator_rules.specs.Named.{used_type}
use Rattle.wasm_operator_validator_rules.specs.Aggregates.{Struct, Array, struct_named, array_named}
use Rattle.wasm_operator_validator_rules.specs.Places.{Place}
use Rattle.wasm_operator_validator_rules.specs.InstructionTypes.{is_described}
use Rattle.wasm_operator_validator_resources.specs.Meaning.{Meaning, named_type, type_in}
use Rattle.wasm_operator_validator_state.specs.State.{Open, State, types_in}
use Rattle.wasm_operator_validator_objects.specs.Rows.{here}

-- ---- types of the module

abbrev pub TypeAt : Meaning → ℕ → TypeTree
TypeAt m x = type_at m.«module».types x

-- the type at an index may be used, and is this entry
abbrev pub IsUsed : Meaning → State → ℕ → EntryOf TypeTree → Type 0
IsUsed m σ x e = (used_type (here m σ) x ≡ Some (TypeAt m x)) × (opened (TypeAt m x) ≡ e)

abbrev pub storage_in : Meaning → StorageType → StorageOf TypeTree
storage_in m s = storage_map (named_type m) (storage_of s)

abbrev pub field_in : Meaning → FieldType → FieldOf TypeTree
field_in m f = field_map (named_type m) (field_of f)

abbrev pub fields_in : Meaning → List FieldType → List (FieldOf TypeTree)
fields_in m fs = map (field_map (named_type m)) (map field_of fs)

-- the fields of a struct type
abbrev pub struct_fields : CompositeInnerType → Option (List FieldType)
struct_fields i = option_map (λ (s : StructType). s.fields.items) (struct_in i)

-- the element of an array type
abbrev pub array_element : CompositeInnerType → Option FieldType
array_element i = option_map (λ (a : ArrayType). a.0) (array_in i)

abbrev pub struct_with : Meaning → ℕ → List FieldType → Struct
struct_with m x fs = record { type = TypeAt m x; fields = fields_in m fs }

abbrev pub array_with : Meaning → ℕ → FieldType → Array
array_with m x f = record { type = TypeAt m x; element = field_in m f }

-- the type at an index is a struct with these fields, and has a descriptor or not; it is an array with this element
abbrev pub IsStruct : Meaning → State → ℕ → List FieldType → Bool → Type 0
IsStruct m σ x fs d = (struct_named (here m σ) x ≡ Some (struct_with m x fs)) × (is_described (struct_with m x fs) ≡ d)

abbrev pub IsArray : Meaning → State → ℕ → FieldType → Type 0
IsArray m σ x f = array_named (here m σ) x ≡ Some (array_with m x f)

-- a place that operands of these types reach
abbrev pub place_in : Meaning → List ValType → FieldType → Place
place_in m ts f = record { reached_by = types_in m ts; storage = storage_in m f.element_type; mutable = f.mutable }

-- ---- what is stored

abbrev pub unpacked_field : FieldType → ValType
unpacked_field f = unpacked_type f.element_type

abbrev pub unpacked_fields : List FieldType → List ValType
unpacked_fields fs = map unpacked_field fs

abbrev pub is_defaultable_field : FieldType → Bool
is_defaultable_field f = is_defaultable_type (unpacked_field f)

abbrev pub are_defaultable : List FieldType → Bool
are_defaultable [] = true
are_defaultable (f ∷ fs) = is_defaultable_field f && are_defaultable fs

abbrev pub is_of_references : StorageType → Bool
is_of_references storage.I8 = false
is_of_references storage.I16 = false
is_of_references (storage.Val t) = is_reference t

-- ---- references

-- a heap type as a module writes it: the type at an index, or exactly that type
abbrev pub written_heap : Bool → ℕ → HeapType
written_heap true x = heap.Exact (index.Module x)
written_heap false x = heap.Concrete (index.Module x)

-- the heap type that it means
abbrev pub heap_to : Bool → TypeTree → HeapOf TypeTree
heap_to true t = exact t
heap_to false t = concrete t

-- ---- unreachable code

-- the innermost frame is unreachable, and has no operands of its own: below it lies anything
abbrev pub LiesOnAnything : List Open → Type 0
LiesOnAnything [] = ⊥
LiesOnAnything (o ∷ outer) = (o.unreachable ≡ true) × (o.operands ≡ [])

-- ---- element segments

-- what a segment of such references holds may be stored
abbrev pub MayStore : Meaning → Reference → StorageType → Type 0
MayStore m r storage.I8 = ⊥
MayStore m r storage.I16 = ⊥
MayStore m r (storage.Val t) = Below (type_in m (vals.Ref r)) (type_in m t)
