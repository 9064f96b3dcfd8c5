-- How fields, signatures and indices are read.
use Rattle.std.specs.Prelude.{ℕ, List, [], ◌∷◌, Bool, true, false, nat_lt, if◌then◌else◌}
use Rattle.wasm_types_values.specs.decoding.declared.Refusal.TheVariants.{Other}
use Rattle.wasm_types_values.specs.decoding.Decoder.{Decoder, ◌>>=◌, pure, refuse, byte, choice}
use Rattle.wasm_types_values.specs.decoding.Leb.{u32}
use Rattle.wasm_types_values.specs.decoding.Lists.{listed_within}
use Rattle.wasm_types_values.specs.settings.Settings.{Settings}
use Rattle.wasm_types_values.specs.types_trees.declared.index.UnpackedIndex.{UnpackedIndex}
use Rattle.wasm_types_values.specs.types_trees.declared.index.UnpackedIndex.TheVariants.{Module}
use Rattle.wasm_types_values.specs.DecodeValues.{value_type, storage_type}
use Rattle.wasm_types_fields.specs.declared.field.FieldType.{FieldType}
use Rattle.wasm_types_fields.specs.Signatures.{Signature}

-- whether a field is mutable, by its byte
abbrev pub mutabilities : List (ℕ × Decoder Bool)
mutabilities = (0x00, pure false) ∷ (0x01, pure true) ∷ []

-- one of these bytes; another is refused after it
unfoldable pub mutability : Decoder Bool
mutability = byte >>= choice mutabilities (refuse Other 0)

-- a storage type, and then the mutability
unfoldable pub field_type : Decoder FieldType
field_type = storage_type >>= λ s. mutability >>= λ m. pure (record { element_type = s; mutable = m })

-- the fields of a struct, within their limit
unfoldable pub fields : Settings → Decoder (List FieldType)
fields z = listed_within z.limits.fields field_type

-- parameters and results, each within their limit
unfoldable pub signature : Settings → Decoder Signature
signature z = listed_within z.limits.params value_type >>= λ ps. listed_within z.limits.results value_type >>= λ rs. pure (record { params = ps; results = rs })

-- an index, within the limit; one past it is refused after it
abbrev pub index_of : ℕ → Decoder UnpackedIndex
index_of n = if nat_lt n 0x10_0000 then pure (Module n) else refuse Other 0

-- a type of the module, below 2^20
unfoldable pub module_index : Decoder UnpackedIndex
module_index = u32 >>= index_of
