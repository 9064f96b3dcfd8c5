-- Worked indices.
use Rattle.std.specs.Prelude.{◌≡◌, ℕ, true, false, List, [], ◌∷◌, ◌++◌, Option, Some, None, codes}
use Rattle.std.specs.Fmt.{decimal}
use Rattle.std.specs.declared.cmp.Ordering.TheVariants.{Less, Equal, Greater}
use Rattle.wasm_types_trees.specs.declared.index.UnpackedIndex.{UnpackedIndex}
use Rattle.wasm_types_trees.specs.declared.index.UnpackedIndex.TheVariants.{Module, RecGroup, Id}
use Rattle.wasm_types_trees.specs.Indices.{number_of, is_canonical_index, module_index_of, rec_group_index_of, type_id_of, index_eq, index_cmp}
use Rattle.wasm_types_trees.specs.Bits.{packed, unpacked}
use Rattle.wasm_types_trees.specs.Text.{index_text}

-- the identity of a number
abbrev pub id : ℕ → UnpackedIndex
id n = Id (record { 0 = n })

-- an index packs to 22 bits
pub record BitsWorked : Type 0 where
  pub first_of_module : packed (Module 0) ≡ 0
  pub last_of_module : packed (Module 0xf_ffff) ≡ 0xf_ffff
  pub first_of_group : packed (RecGroup 0) ≡ 0x10_0000
  pub last_of_group : packed (RecGroup 0xf_ffff) ≡ 0x1f_ffff
  pub first_identity : packed (id 0) ≡ 0x20_0000
  pub last_identity : packed (id 0xf_ffff) ≡ 0x2f_ffff
  pub unpacked_of_module : unpacked 0xf_ffff ≡ Module 0xf_ffff
  pub unpacked_of_group : unpacked 0x10_0001 ≡ RecGroup 1
  pub unpacked_identity : unpacked 0x2f_ffff ≡ id 0xf_ffff

-- each kind by its own name alone
pub record KindsWorked : Type 0 where
  pub numbers : (number_of (Module 7) ≡ 7) × (number_of (RecGroup 8) ≡ 8) × (number_of (id 9) ≡ 9)
  pub canonical : (is_canonical_index (Module 7) ≡ false) × (is_canonical_index (RecGroup 7) ≡ true) × (is_canonical_index (id 7) ≡ true)
  pub of_module : (module_index_of (Module 7) ≡ Some 7) × (module_index_of (RecGroup 7) ≡ None) × (module_index_of (id 7) ≡ None)
  pub of_group : (rec_group_index_of (Module 7) ≡ None) × (rec_group_index_of (RecGroup 7) ≡ Some 7) × (rec_group_index_of (id 7) ≡ None)
  pub identity : (type_id_of (Module 7) ≡ None) × (type_id_of (RecGroup 7) ≡ None) × (type_id_of (id 7) ≡ Some (record { 0 = 7 }))

-- by kind, and then by number
pub record OrderWorked : Type 0 where
  pub equal : (index_eq (RecGroup 7) (RecGroup 7) ≡ true) × (index_cmp (RecGroup 7) (RecGroup 7) ≡ Equal)
  pub other_number : (index_eq (Module 7) (Module 8) ≡ false) × (index_eq (Module 8) (Module 7) ≡ false)
  pub other_kind : (index_eq (Module 7) (RecGroup 7) ≡ false) × (index_eq (id 7) (RecGroup 7) ≡ false)
  pub by_number : (index_cmp (id 7) (id 8) ≡ Less) × (index_cmp (id 8) (id 7) ≡ Greater)
  pub by_kind : (index_cmp (Module 9) (RecGroup 8) ≡ Less) × (index_cmp (RecGroup 8) (id 7) ≡ Less) × (index_cmp (id 7) (Module 9) ≡ Greater)

-- in words
pub record TextsWorked : Type 0 where
  pub of_module : index_text (Module 7) ≡ codes "(module " ++ decimal 7 ++ codes ")"
  pub of_group : index_text (RecGroup 7) ≡ codes "(recgroup " ++ decimal 7 ++ codes ")"
  pub identity : index_text (id 7) ≡ codes "(id " ++ decimal 7 ++ codes ")"

-- of each kind the largest index that packs, and the next, which does not
abbrev pub ends_of_packing : List (Option UnpackedIndex)
ends_of_packing = Some (Module 0xf_ffff) ∷ None ∷ Some (RecGroup 0xf_ffff) ∷ None ∷ Some (id 0xf_ffff) ∷ None ∷ []
