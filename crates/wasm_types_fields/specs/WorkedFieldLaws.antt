-- Laws: worked fields, functions and indices. What these bytes are read as, and how these types are written.
use Rattle.std.proofs.Common.{◌≡◌, ◌≢◌, ℕ, ◌++◌, List, [], ◌∷◌, refl, ap, Bool, true, false, slice_index, slice_index_or}
use Rattle.std.specs.Prelude.{codes}
use Rattle.std.specs.Fmt.{decimal}
use Rattle.std.specs.Hash.{slice, le_bytes}
use Rattle.std.specs.declared.cmp.Ordering.TheVariants.{Less, Greater}
use Rattle.wasm_types_values.specs.decoding.declared.Refusal.TheVariants.{Other}
use Rattle.wasm_types_values.specs.decoding.Decoder.{Done, Short, Fault, repeated}
use Rattle.wasm_types_values.specs.decoding.Leb.{unsigned}
use Rattle.wasm_types_values.specs.decoding.Lists.{size_within, listed_within}
use Rattle.wasm_types_values.specs.types_trees.declared.index.UnpackedIndex.TheVariants.{Module}
use Rattle.wasm_types_values.specs.declared.heap.AbstractHeapType.TheVariants as heap
use Rattle.wasm_types_values.specs.declared.heap.HeapType.TheVariants.{Abstract}
use Rattle.wasm_types_values.specs.declared.value.ValType.{ValType}
use Rattle.wasm_types_values.specs.declared.value.ValType.TheVariants.{I32, I64, F32, Ref}
use Rattle.wasm_types_values.specs.contracts.value.ValTypeHash.TheImpl as hash
use Rattle.wasm_types_values.specs.declared.value.StorageType.{StorageType}
use Rattle.wasm_types_values.specs.declared.value.StorageType.TheVariants.{I8, I16, Val}
use Rattle.wasm_types_values.specs.Decode.{reference, reference_after}
use Rattle.wasm_types_values.specs.DecodeValues.{value_type_after, value_type, storage_type_after, storage_type}
use Rattle.wasm_types_values.specs.settings.Limits.{default_limits}
use Rattle.wasm_types_values.specs.settings.Settings.{Settings, no_features}
use Rattle.wasm_types_values.specs.WorkedTypeLaws.{start_of, behind}
use Rattle.wasm_types_fields.specs.declared.field.FieldType.{FieldType}
use Rattle.wasm_types_fields.specs.Signatures.{Signature, signature_eq, signature_cmp, signature_writes}
use Rattle.wasm_types_fields.specs.Decode.{mutability, field_type, fields, signature, module_index}
use Rattle.wasm_types_fields.specs.Text.{field_text, array_text, struct_text, func_text, cont_text}

abbrev field : StorageType → Bool → FieldType
field s m = record { element_type = s; mutable = m }

abbrev function : List ValType → List ValType → Signature
function params results = record { params = params; results = results }

-- one field, one parameter, and two results at most
abbrev narrow : Settings
narrow = record { features = 0; limits = record default_limits { fields = 1; params = 1; results = 2 } }

-- ---- fields

abbrev pub FieldsAreRead : Type 0
FieldsAreRead = (field_type (start_of (0x7f ∷ 0x00 ∷ [])) ≡ Done (field (Val I32) false) (behind 2)) × (field_type (start_of (0x78 ∷ 0x01 ∷ [])) ≡ Done (field I8 true) (behind 2))
    × (field_type (start_of (0x7f ∷ 0x02 ∷ [])) ≡ Fault Other 2) × (field_type (start_of (0x76 ∷ 0x00 ∷ [])) ≡ Fault Other 0) × (field_type (start_of (0x7f ∷ [])) ≡ Short 1 1)
    × (fields no_features (start_of (0x00 ∷ [])) ≡ Done [] (behind 1)) ×
    (fields no_features (start_of (0x02 ∷ 0x7f ∷ 0x00 ∷ 0x77 ∷ 0x01 ∷ [])) ≡ Done (field (Val I32) false ∷ field I16 true ∷ []) (behind 5))
    × (fields no_features (start_of (0x90 ∷ 0x4e ∷ [])) ≡ Short 2 1) × (fields no_features (start_of (0x91 ∷ 0x4e ∷ [])) ≡ Fault Other 0)
    × (fields narrow (start_of (0x01 ∷ [])) ≡ Short 1 1) × (fields narrow (start_of (0x02 ∷ [])) ≡ Fault Other 0)

pub field_bytes : FieldsAreRead
unfolding default_limits field_type fields mutability listed_within size_within unsigned repeated storage_type storage_type_after value_type_after reference_after
field_bytes = (refl, refl, refl, refl, refl, refl, refl, refl, refl, refl, refl)

-- ---- functions

abbrev pub FunctionsAreRead : Type 0
FunctionsAreRead = (signature no_features (start_of (0x00 ∷ 0x00 ∷ [])) ≡ Done (function [] []) (behind 2)) ×
    (signature no_features (start_of (0x01 ∷ 0x7f ∷ 0x02 ∷ 0x7e ∷ 0x7d ∷ [])) ≡ Done (function (I32 ∷ []) (I64 ∷ F32 ∷ [])) (behind 5))
    × (signature no_features (start_of (0xe8 ∷ 0x07 ∷ [])) ≡ Short 2 1) × (signature no_features (start_of (0xe9 ∷ 0x07 ∷ [])) ≡ Fault Other 0)
    × (signature no_features (start_of (0x00 ∷ 0xe8 ∷ 0x07 ∷ [])) ≡ Short 3 1) ×
    (signature no_features (start_of (0x00 ∷ 0xe9 ∷ 0x07 ∷ [])) ≡ Fault Other 1) × (signature no_features (start_of (0x01 ∷ 0x78 ∷ [])) ≡ Fault Other 1)
    × (signature narrow (start_of (0x02 ∷ [])) ≡ Fault Other 0) × (signature narrow (start_of (0x00 ∷ 0x02 ∷ [])) ≡ Short 2 1) ×
    (signature narrow (start_of (0x00 ∷ 0x03 ∷ [])) ≡ Fault Other 1)

pub function_bytes : FunctionsAreRead
unfolding default_limits signature listed_within size_within unsigned repeated value_type value_type_after reference_after
function_bytes = (refl, refl, refl, refl, refl, refl, refl, refl, refl, refl)

-- ---- indices

abbrev pub IndicesAreRead : Type 0
IndicesAreRead = (module_index (start_of (0x05 ∷ [])) ≡ Done (Module 5) (behind 1)) × (module_index (start_of (0xff ∷ 0xff ∷ 0x3f ∷ [])) ≡ Done (Module 1048575) (behind 3))
    × (module_index (start_of (0x80 ∷ 0x80 ∷ 0xc0 ∷ 0x00 ∷ [])) ≡ Fault Other 4) ×
    (module_index (start_of (0x80 ∷ 0x80 ∷ 0x80 ∷ 0x80 ∷ 0x10 ∷ [])) ≡ Fault Other 4) × (module_index (start_of (0x80 ∷ [])) ≡ Short 1 1)

pub index_bytes : IndicesAreRead
unfolding module_index unsigned
index_bytes = (refl, refl, refl, refl, refl)

-- ---- how functions compare, and what is hashed of them

abbrev pub FunctionsCompared : Type 0
FunctionsCompared = (signature_eq (function (I32 ∷ []) (I64 ∷ [])) (function (I32 ∷ []) (I64 ∷ [])) ≡ true) × (signature_eq (function (I32 ∷ []) []) (function [] (I32 ∷ [])) ≡ false)
    × (signature_cmp (function [] (I64 ∷ [])) (function (I32 ∷ []) []) ≡ Less) × (signature_cmp (function (I32 ∷ []) (I64 ∷ [])) (function (I32 ∷ I32 ∷ []) []) ≡ Less)
    × (signature_cmp (function (I32 ∷ []) (I64 ∷ [])) (function (I32 ∷ []) (I32 ∷ [])) ≡ Greater)

pub functions_compared : FunctionsCompared
functions_compared = (refl, refl, refl, refl, refl)

-- what the slice of the parameters writes, and then that of the results: a value is hashed differently as a parameter and as a result
abbrev pub FunctionsHashed : Type 0
FunctionsHashed = (signature_writes (function (I32 ∷ []) (I64 ∷ F32 ∷ [])) ≡ slice hash.ghosts.hash_input (I32 ∷ []) ++ slice hash.ghosts.hash_input (I64 ∷ F32 ∷ [])) ×
    (signature_writes (function (I32 ∷ []) []) ≢ signature_writes (function [] (I32 ∷ [])))

pub functions_hashed : FunctionsHashed
unfolding le_bytes
functions_hashed = (refl, λ e. let first : ◌≡◌ {A = ℕ} 1 0 = ap (λ ws. slice_index (slice_index_or ws 0 []) 0) e in cc)

-- ---- how they are written

abbrev pub TextsAreWritten : Type 0
TextsAreWritten = (field_text (field (Val I32) true) ≡ codes "(mut i32)") × (field_text (field I8 false) ≡ codes "i8") ×
    (array_text (record { 0 = field I16 true }) ≡ codes "(array (mut i16))")
    × (struct_text [] ≡ codes "(struct)") × (struct_text (field (Val I64) true ∷ field I8 false ∷ []) ≡ codes "(struct (mut i64) i8)")
    × (func_text [] [] ≡ codes "(func)") × (func_text [] (I32 ∷ []) ≡ codes "(func (result i32))") ×
    (func_text (I32 ∷ Ref (reference true (Abstract false heap.Func)) ∷ []) (F32 ∷ []) ≡ codes "(func (param i32 funcref) (result f32))")
    × (cont_text (record { 0 = Module 4 }) ≡ codes "(cont (module " ++ decimal 4 ++ codes ")" ++ codes ")")

pub texts_written : TextsAreWritten
texts_written = (refl, refl, refl, refl, refl, refl, refl, refl, refl)
