-- How value types and storage types are written.
use Rattle.std.specs.Prelude.{ℕ, List, codes}
use Rattle.wasm_types_values.specs.declared.value.ValType.{ValType}
use Rattle.wasm_types_values.specs.declared.value.ValType.TheVariants.{I32, I64, F32, F64, V128, Ref}
use Rattle.wasm_types_values.specs.declared.value.StorageType.{StorageType}
use Rattle.wasm_types_values.specs.declared.value.StorageType.TheVariants.{I8, I16, Val}
use Rattle.wasm_types_values.specs.Text.{reference_text}

-- a value type as `Display` writes it
abbrev pub value_text : ValType → List ℕ
value_text I32 = codes "i32"
value_text I64 = codes "i64"
value_text F32 = codes "f32"
value_text F64 = codes "f64"
value_text V128 = codes "v128"
value_text (Ref r) = reference_text r

-- a storage type as `Display` writes it
abbrev pub storage_text : StorageType → List ℕ
storage_text I8 = codes "i8"
storage_text I16 = codes "i16"
storage_text (Val v) = value_text v
