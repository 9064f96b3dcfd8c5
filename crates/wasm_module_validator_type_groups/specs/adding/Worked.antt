-- Worked groups: what a list keeps of a group, and what a module has once it was added. Function references are feature 0x20000.
use Rattle.std.specs.Prelude.{◌≡◌, [], ◌∷◌}
use Rattle.wasm_types.specs.trees.declared.index.UnpackedIndex.TheVariants.{Module, RecGroup}
use Rattle.wasm_module_validator_type_storage.specs.trees.Worked.{id, id_of, struct_to, canonical, as_written, pair, lower, both}
use Rattle.wasm_module_validator_canonical_types.specs.Worked.{two}
use Rattle.wasm_module_validator_type_groups.specs.adding.Interned.{kept_group, ids_from, AddsGroup}

pub record AddingWorked : Type 0 where
  pub ids : ids_from 3 2 ≡ id_of 3 ∷ id_of 4 ∷ []
  pub no_ids : ids_from 3 0 ≡ []
  pub kept : kept_group 0x20000 two (struct_to (Module 1 ∷ []) (Module 2) ∷ []) ≡ canonical (struct_to (id 9 ∷ []) (RecGroup 0) ∷ [])
  pub as_it_is : kept_group 0 two (struct_to (Module 1 ∷ []) (Module 2) ∷ []) ≡ as_written (struct_to (Module 1 ∷ []) (Module 2) ∷ [])
  -- a group that is new, behind no type and behind one
  pub first : AddsGroup [] (pair ∷ []) [] (id_of 0 ∷ id_of 1 ∷ []) pair
  pub second : AddsGroup (pair ∷ []) both (id_of 1 ∷ []) (id_of 1 ∷ id_of 2 ∷ []) lower
  -- one that is known
  pub again : AddsGroup both both (id_of 0 ∷ []) (id_of 0 ∷ id_of 0 ∷ id_of 1 ∷ []) pair
  pub known_kept_out : AddsGroup both (pair ∷ both) [] (id_of 3 ∷ id_of 4 ∷ []) pair → ⊥
  pub too_few_ids : AddsGroup [] (pair ∷ []) [] (id_of 0 ∷ []) pair → ⊥
