-- Structures and arrays that a constant makes (WebAssembly 3.0, validation, aggregate instructions).
use Rattle.std.specs.Prelude.{◌≡◌, ℕ, Bool, true, false, List, [], ◌∷◌, ◌++◌, ◌&&◌, map, Option, Some, None, option_map}
use Rattle.wasm_types.specs.settings.Features.{CustomDescriptors, Gc, has}
use Rattle.wasm_types.specs.trees.Gates.{Has}
use Rattle.wasm_types.specs.trees.Types.{FieldOf, field_map, ref, concrete}
use Rattle.wasm_types.specs.trees.Trees.{TypeTree, opened}
use Rattle.wasm_types.specs.trees.ValidGroup.{type_at}
use Rattle.wasm_types.specs.values.Reference.{Reference}
use Rattle.wasm_types.specs.values.declared.heap.AbstractHeapType.TheVariants.{I31}
use Rattle.wasm_types.specs.values.declared.heap.HeapType.TheVariants.{Abstract}
use Rattle.wasm_types.specs.values.declared.value.ValType.{ValType}
use Rattle.wasm_types.specs.values.declared.value.ValType.TheVariants as value
use Rattle.wasm_types.specs.values.ValueKinds.{is_defaultable_type, unpacked_type}
use Rattle.wasm_types.specs.fields.declared.field.FieldType.{FieldType}
use Rattle.wasm_types.specs.fields.declared.field.StructType.{StructType}
use Rattle.wasm_types.specs.fields.declared.field.ArrayType.{ArrayType}
use Rattle.wasm_types.specs.fields.Fields.{field_of}
use Rattle.wasm_types.specs.declared.composite.CompositeInnerType.{CompositeInnerType}
use Rattle.wasm_types.specs.Kinds.{struct_in, array_in}
use Rattle.wasm_operators_immediates.specs.Immediates.{Immediate, Index}
use Rattle.wasm_operators_immediates.specs.Kinds as kind
use Rattle.wasm_operators_immediates.specs.declared.proposal.Proposal.TheVariants as proposal
use Rattle.wasm_operators_enums.specs.declared.gc.GcOperator.{GcOperator}
use Rattle.wasm_operators_enums.specs.Op as op
use Rattle.wasm_operators_enums.specs.Immediates.{immediates_of}
use Rattle.wasm_operators_enums.specs.Table.{info_of}
use Rattle.wasm_operators_encoding.specs.Opcodes.{prefixed}
use Rattle.wasm_operators_encoding.specs.Operators.{opcode_of}
use Rattle.wasm_operator_validator_rules.specs.Operands.{ValueType, Operand}
use Rattle.wasm_operator_validator_rules.specs.Context.{Context}
use Rattle.wasm_operator_validator_rules.specs.Aggregates.{struct_named, array_named}
use Rattle.wasm_operator_validator_rules.specs.InstructionTypes.{◌⟶◌, gc_type_of}
use Rattle.wasm_operator_validator_rules.specs.Taken.{TableRow}
use Rattle.wasm_operator_validator_rules.specs.Objects.{GcRow}
use Rattle.wasm_operator_validator_rules.specs.constants.Constants.{IsConstantObject}
use Rattle.wasm_operator_validator_state.specs.resources.Meaning.{Meaning, named_type, type_in}
use Rattle.wasm_module_validator_fast_constants.specs.Steps.{MayTake, tops, within_constant}

-- ---- fields

-- the fields of a structure, and the element of an array
abbrev pub struct_fields : CompositeInnerType → Option (List FieldType)
struct_fields i = option_map (λ (s : StructType). s.fields.items) (struct_in i)

abbrev pub array_element : CompositeInnerType → Option FieldType
array_element i = option_map (λ (a : ArrayType). a.0) (array_in i)

abbrev pub field_in : Meaning → FieldType → FieldOf TypeTree
field_in m f = field_map (named_type m) (field_of f)

abbrev pub fields_in : Meaning → List FieldType → List (FieldOf TypeTree)
fields_in m fs = map (field_map (named_type m)) (map field_of fs)

-- the type of the values of a field, and of each
abbrev pub unpacked_field : FieldType → ValType
unpacked_field f = unpacked_type f.element_type

abbrev pub field_types : Meaning → List FieldType → List ValueType
field_types m fs = map (type_in m) (map unpacked_field fs)

-- it has a default value, and each has
abbrev pub is_defaultable_field : FieldType → Bool
is_defaultable_field f = is_defaultable_type (unpacked_field f)

abbrev pub are_defaultable : List FieldType → Bool
are_defaultable [] = true
are_defaultable (f ∷ fs) = is_defaultable_field f && are_defaultable fs

-- ---- types

abbrev pub TypeAt : Meaning → ℕ → TypeTree
TypeAt m x = type_at m.«module».types x

-- the type at an index is a structure with these fields, and has no descriptor; it is an array with this element
pub record IsStruct (m : Meaning) (x : ℕ) (fs : List FieldType) : Type 0 where
  pub named : (bits : ℕ) (t : ValueType) → struct_named (within_constant bits m.«module» t) x ≡ Some (record { type = TypeAt m x; fields = fields_in m fs })
  pub undescribed : (opened (TypeAt m x)).descriptor ≡ None

abbrev pub IsArray : Meaning → ℕ → FieldType → Type 0
IsArray m x f = (bits : ℕ) (t : ValueType) → array_named (within_constant bits m.«module» t) x ≡ Some (record { type = TypeAt m x; element = field_in m f })

-- ---- objects

-- the reference to a number of 31 bits is in the place of the number
abbrev pub RefersToNumber : List ValType → List ValType → Type 0
RefersToNumber before behind = (left : List ValType) × (r : Reference) × (before ≡ left ++ value.I32 ∷ [])
    × (r ≡ record { nullable = false; heap = Abstract false I31 }) × (behind ≡ left ++ value.Ref r ∷ [])

-- An operator with this code behind the prefix, which carries the index and these numbers, makes an object of the type at the index. It takes
-- operands of the first types, which leaves those of the last.
pub record MakesObject (m : Meaning) (code x : ℕ) (more : List Immediate) (before left : List ValType) : Type 0 where
  pub operator : GcOperator
  pub opcode : opcode_of (op.Gc operator) ≡ prefixed 0xfb code
  pub asks : (info_of (op.Gc operator)).proposal ≡ proposal.Gc
  pub carries : immediates_of (op.Gc operator) ≡ Index kind.Types x ∷ more
  pub constant : (bits : ℕ) → Has bits Gc → IsConstantObject bits operator
  pub takes : List ValueType
  pub row : (g : Context) (popped pushed : List Operand) → TableRow g (op.Gc operator) popped pushed → GcRow g operator popped pushed
  pub table : (bits : ℕ) (t : ValueType) → has CustomDescriptors bits ≡ false
      → gc_type_of (within_constant bits m.«module» t) operator ≡ Some (takes ⟶ ref false (concrete (TypeAt m x)) ∷ [])
  pub may : MayTake (tops m before) takes (tops m left)
