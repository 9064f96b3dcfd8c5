-- What value types and storage types are, by cases.
use Rattle.std.specs.Prelude.{Bool, true, false, Option, Some, None}
use Rattle.wasm_types_values.specs.declared.value.ValType.{ValType}
use Rattle.wasm_types_values.specs.declared.value.ValType.TheVariants.{I32, I64, F32, F64, V128, Ref}
use Rattle.wasm_types_values.specs.declared.value.StorageType.{StorageType}
use Rattle.wasm_types_values.specs.declared.value.StorageType.TheVariants.{I8, I16, Val}
use Rattle.wasm_types_values.specs.Reference.{Reference}

-- whether it is a reference type
abbrev pub is_reference : ValType → Bool
is_reference I32 = false
is_reference I64 = false
is_reference F32 = false
is_reference F64 = false
is_reference V128 = false
is_reference (Ref r) = true

-- the reference type, if it is one
abbrev pub reference_in : ValType → Option Reference
reference_in I32 = None
reference_in I64 = None
reference_in F32 = None
reference_in F64 = None
reference_in V128 = None
reference_in (Ref r) = Some r

-- whether it has a default value: all but references that may not be null (validation, types)
abbrev pub is_defaultable_type : ValType → Bool
is_defaultable_type I32 = true
is_defaultable_type I64 = true
is_defaultable_type F32 = true
is_defaultable_type F64 = true
is_defaultable_type V128 = true
is_defaultable_type (Ref r) = r.nullable

-- whether it is a packed type (structure, aggregate types)
abbrev pub is_packed_type : StorageType → Bool
is_packed_type I8 = true
is_packed_type I16 = true
is_packed_type (Val v) = false

-- the value type of what is stored (structure, aggregate types)
abbrev pub unpacked_type : StorageType → ValType
unpacked_type I8 = I32
unpacked_type I16 = I32
unpacked_type (Val v) = v
