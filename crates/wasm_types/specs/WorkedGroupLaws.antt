-- Laws: worked composite types, subtypes and groups. What these bytes are read as, and how parts of these types are written.
use Rattle.std.proofs.Common.{◌≡◌, ℕ, ◌++◌, List, [], ◌∷◌, refl, true, false, Option, Some, None}
use Rattle.std.specs.Prelude.{codes}
use Rattle.std.specs.Fmt.{decimal}
use Rattle.wasm_types_decoding.specs.declared.Refusal.TheVariants.{Other}
use Rattle.wasm_types_decoding.specs.Decoder.{Done, Short, Fault, repeated}
use Rattle.wasm_types_decoding.specs.Leb.{unsigned}
use Rattle.wasm_types_decoding.specs.Lists.{size_within, listed_within}
use Rattle.wasm_types_settings.specs.Limits.{default_limits}
use Rattle.wasm_types_settings.specs.Settings.{no_features}
use Rattle.wasm_types_trees.specs.declared.index.UnpackedIndex.{UnpackedIndex}
use Rattle.wasm_types_trees.specs.declared.index.UnpackedIndex.TheVariants.{Module}
use Rattle.wasm_types_values.specs.declared.value.ValType.TheVariants.{I32}
use Rattle.wasm_types_values.specs.declared.value.StorageType.TheVariants.{Val}
use Rattle.wasm_types_values.specs.Decode.{reference_after}
use Rattle.wasm_types_values.specs.DecodeValues.{value_type, value_type_after, storage_type_after, storage_type}
use Rattle.wasm_types_values.specs.WorkedTypeLaws.{start_of, behind}
use Rattle.wasm_types_fields.specs.declared.field.ArrayType.{ArrayType}
use Rattle.wasm_types_fields.specs.declared.field.StructType.{StructType}
use Rattle.wasm_types_fields.specs.declared.func.FuncType.{FuncType}
use Rattle.wasm_types_fields.specs.declared.cont.ContType.{ContType}
use Rattle.wasm_types_fields.specs.Decode.{mutability, field_type, fields, signature, module_index}
use Rattle.wasm_types_fields.specs.Text.{array_text, cont_text}
use Rattle.wasm_types.specs.declared.composite.CompositeInnerType.TheVariants.{Func, Array, Struct, Cont}
use Rattle.wasm_types.specs.SpellsTypes.{InnerValue, function, array_of, struct_of, continuation, CompositeValue, SubValue, sub_with, group_with}
use Rattle.wasm_types.specs.DecodeTypes.{inner_after, last_after, descriptor_after, describes_after, composite_after, composite, supertypes}
use Rattle.wasm_types.specs.DecodeTypes.{declared_sub, sub_after, sub_type, explicit_group, group_after, rec_group}
use Rattle.wasm_types.specs.Places.{places, group_places}
use Rattle.wasm_types.specs.Kinds.{func_in, array_in, struct_in, cont_in}
use Rattle.wasm_types.specs.Text.{inner_text, prefix_text, shared_text, declared_text}

-- ---- composite types

-- what is not shared, with its descriptor and the type that it describes
abbrev plain : Option UnpackedIndex → Option UnpackedIndex → InnerValue → CompositeValue
plain descriptor describes x = record { inner = x; shared = false; descriptor = descriptor; describes = describes }

abbrev no_fields : CompositeValue
no_fields = plain None None (struct_of [])

abbrev IsComposite : List ℕ → CompositeValue → ℕ → Type 0
IsComposite bytes c n = composite no_features (start_of bytes) ≡ Done c (behind n)

abbrev pub CompositeTypesAreRead : Type 0
CompositeTypesAreRead = IsComposite (0x60 ∷ 0x01 ∷ 0x7f ∷ 0x00 ∷ []) (plain None None (function (record { params = I32 ∷ []; results = [] }))) 4
    × IsComposite (0x5e ∷ 0x7f ∷ 0x01 ∷ []) (plain None None (array_of (record { element_type = Val I32; mutable = true }))) 3
    × IsComposite (0x5f ∷ 0x00 ∷ []) no_fields 2 × IsComposite (0x5d ∷ 0x03 ∷ []) (plain None None (continuation (Module 3))) 2
    × IsComposite (0x65 ∷ 0x5f ∷ 0x00 ∷ []) (record { inner = struct_of []; shared = true; descriptor = None; describes = None }) 3
    × IsComposite (0x4c ∷ 0x01 ∷ 0x4d ∷ 0x02 ∷ 0x5f ∷ 0x00 ∷ []) (plain (Some (Module 2)) (Some (Module 1)) (struct_of [])) 6
    × IsComposite (0x4d ∷ 0x02 ∷ 0x5f ∷ 0x00 ∷ []) (plain (Some (Module 2)) None (struct_of [])) 4
    × (composite no_features (start_of (0x4d ∷ 0x02 ∷ 0x4c ∷ 0x01 ∷ 0x5f ∷ 0x00 ∷ [])) ≡ Fault Other 2) ×
    (composite no_features (start_of (0x5c ∷ 0x00 ∷ [])) ≡ Fault Other 0) × (composite no_features (start_of (0x65 ∷ [])) ≡ Short 1 1)

pub composite_bytes : CompositeTypesAreRead
unfolding default_limits composite composite_after describes_after descriptor_after last_after inner_after signature field_type fields mutability
    module_index listed_within size_within unsigned repeated storage_type storage_type_after value_type_after reference_after value_type
composite_bytes = (refl, refl, refl, refl, refl, refl, refl, refl, refl, refl)

-- ---- subtypes

abbrev pub SubTypesAreRead : Type 0
SubTypesAreRead = (sub_type no_features (start_of (0x5f ∷ 0x00 ∷ [])) ≡ Done (sub_with true [] no_fields) (behind 2)) ×
    (sub_type no_features (start_of (0x50 ∷ 0x00 ∷ 0x5f ∷ 0x00 ∷ [])) ≡ Done (sub_with false [] no_fields) (behind 4))
    × (sub_type no_features (start_of (0x4f ∷ 0x01 ∷ 0x03 ∷ 0x5f ∷ 0x00 ∷ [])) ≡ Done (sub_with true (Module 3 ∷ []) no_fields) (behind 5)) ×
    (sub_type no_features (start_of (0x50 ∷ 0x02 ∷ [])) ≡ Fault Other 1)
    × (sub_type no_features (start_of (0x4e ∷ 0x00 ∷ [])) ≡ Fault Other 0)

pub sub_bytes : SubTypesAreRead
unfolding default_limits sub_type sub_after declared_sub supertypes composite composite_after describes_after descriptor_after last_after inner_after
    fields module_index listed_within size_within unsigned repeated
sub_bytes = (refl, refl, refl, refl, refl)

-- ---- groups

abbrev one_type : List SubValue
one_type = sub_with true [] no_fields ∷ []

-- the same group, written as one and alone; offsets; and the limit of a million types
abbrev pub GroupsAreRead : Type 0
GroupsAreRead = (rec_group no_features (start_of (0x4e ∷ 0x01 ∷ 0x5f ∷ 0x00 ∷ [])) ≡ Done (group_with true one_type) (behind 4)) ×
    (rec_group no_features (start_of (0x5f ∷ 0x00 ∷ [])) ≡ Done (group_with false one_type) (behind 2))
    × (rec_group no_features (start_of (0x4e ∷ 0x00 ∷ [])) ≡ Done (group_with true []) (behind 2)) × (rec_group no_features (start_of (0x4b ∷ 0x00 ∷ [])) ≡ Fault Other 0)
    × (rec_group no_features (start_of (0x4e ∷ 0xc0 ∷ 0x84 ∷ 0x3d ∷ [])) ≡ Short 4 1) × (rec_group no_features (start_of (0x4e ∷ 0xc1 ∷ 0x84 ∷ 0x3d ∷ [])) ≡ Fault Other 1)
    × (group_places no_features (start_of (0x4e ∷ 0x02 ∷ 0x5f ∷ 0x00 ∷ 0x5f ∷ 0x00 ∷ [])) ≡ Done (2 ∷ 4 ∷ []) (behind 6)) ×
    (group_places no_features (start_of (0x5f ∷ 0x00 ∷ [])) ≡ Done (0 ∷ []) (behind 2))

pub group_bytes : GroupsAreRead
unfolding default_limits rec_group group_after explicit_group group_places places sub_type sub_after declared_sub supertypes composite composite_after
    describes_after descriptor_after last_after inner_after fields module_index listed_within size_within unsigned repeated
group_bytes = (refl, refl, refl, refl, refl, refl, refl, refl)

-- ---- what they are, and how they are written

abbrev pub KindsAreTold : Type 0
KindsAreTold = ((f : FuncType) → (func_in (Func f) ≡ Some f) × (array_in (Func f) ≡ None)) × ((a : ArrayType) → (array_in (Array a) ≡ Some a) × (struct_in (Array a) ≡ None))
    × ((s : StructType) → (struct_in (Struct s) ≡ Some s) × (cont_in (Struct s) ≡ None)) × ((c : ContType) → (cont_in (Cont c) ≡ Some c) × (func_in (Cont c) ≡ None))

pub kinds_told : KindsAreTold
kinds_told = (λ f. (refl, refl), λ a. (refl, refl), λ s. (refl, refl), λ c. (refl, refl))

abbrev pub TextsAreWritten : Type 0
TextsAreWritten = ((a : ArrayType) → inner_text (Array a) ≡ array_text a) × ((c : ContType) → inner_text (Cont c) ≡ cont_text c) × (prefix_text (codes "describes") None ≡ [])
    × (prefix_text (codes "describes") (Some (Module 1)) ≡ codes "(describes (module " ++ decimal 1 ++ codes ")" ++ codes ") ") ×
    (shared_text true (codes "(struct)") ≡ codes "(shared (struct))") × (shared_text false (codes "(struct)") ≡ codes "(struct)")
    × (declared_text true [] (codes "(struct)") ≡ codes "(struct)") × (declared_text false [] (codes "(struct)") ≡ codes "(sub (struct))")

pub texts_written : TextsAreWritten
texts_written = (λ a. refl, λ c. refl, refl, refl, refl, refl, refl, refl)
