-- How the bytes of value types and storage types are read.
use Rattle.std.specs.Prelude.{ℕ, ◌==◌, List, [], ◌∷◌, if◌then◌else◌}
use Rattle.wasm_types_reader.specs.decoding.Decoder.{Decoder, ◌>>=◌, pure, byte, choice_or}
use Rattle.wasm_types_values.specs.declared.value.ValType.{ValType}
use Rattle.wasm_types_values.specs.declared.value.ValType.TheVariants.{I32, I64, F32, F64, V128, Ref}
use Rattle.wasm_types_values.specs.declared.value.StorageType.{StorageType}
use Rattle.wasm_types_values.specs.declared.value.StorageType.TheVariants.{I8, I16, Val}
use Rattle.wasm_types_values.specs.Decode.{reference_after}

-- number types and the vector type, by their bytes
abbrev pub numbers : List (ℕ × Decoder ValType)
numbers = (0x7f, pure I32) ∷ (0x7e, pure I64) ∷ (0x7d, pure F32) ∷ (0x7c, pure F64) ∷ (0x7b, pure V128) ∷ []

-- any other byte begins a reference
abbrev pub reference_value_after : ℕ → Decoder ValType
reference_value_after b = reference_after b >>= λ r. pure (Ref r)

-- a value type by its first byte
unfoldable pub value_type_after : ℕ → Decoder ValType
value_type_after b = choice_or numbers reference_value_after b

-- a value type from its first byte on
unfoldable pub value_type : Decoder ValType
value_type = byte >>= value_type_after

-- a storage type by its first byte: packed, or a value type
unfoldable pub storage_type_after : ℕ → Decoder StorageType
storage_type_after b = if b == 0x78 then pure I8 else (if b == 0x77 then pure I16 else (value_type_after b >>= λ v. pure (Val v)))

-- a storage type from its first byte on
unfoldable pub storage_type : Decoder StorageType
storage_type = byte >>= storage_type_after
