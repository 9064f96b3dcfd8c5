-- Worked groups behind two types of a module, with the ids 5 and 9: their canonical forms, and which indices they may have.
use Rattle.std.specs.Prelude.{◌≡◌, true, false, List, [], ◌∷◌}
use Rattle.wasm_types.specs.trees.declared.index.CoreTypeId.{CoreTypeId}
use Rattle.wasm_types.specs.trees.declared.index.UnpackedIndex.TheVariants.{Module, RecGroup}
use Rattle.wasm_module_validator_type_storage.specs.trees.Worked.{id, id_of, struct_to}
use Rattle.wasm_module_validator_canonical_types.specs.Canonical.{canonical_index, canonical_types, IsIndexAllowed, AreTypesAllowed}

abbrev pub two : List CoreTypeId
two = id_of 5 ∷ id_of 9 ∷ []

pub record CanonicalWorked : Type 0 where
  pub first : canonical_index two (Module 0) ≡ id 5
  pub last : canonical_index two (Module 1) ≡ id 9
  pub own : canonical_index two (Module 2) ≡ RecGroup 0
  pub next : canonical_index two (Module 3) ≡ RecGroup 1
  pub place : canonical_index two (RecGroup 0) ≡ RecGroup 0
  pub known : canonical_index two (id 0) ≡ id 0
  pub types : canonical_types two (struct_to (Module 1 ∷ []) (Module 2) ∷ []) ≡ struct_to (id 9 ∷ []) (RecGroup 0) ∷ []
  pub earlier : IsIndexAllowed false 2 3 (Module 1)
  pub needs_gc : IsIndexAllowed false 2 3 (Module 2) → ⊥
  pub own_place : IsIndexAllowed true 2 3 (Module 2)
  pub past_the_end : IsIndexAllowed true 2 3 (Module 3) → ⊥
  pub allowed : AreTypesAllowed true 2 4 2 (struct_to [] (Module 3) ∷ struct_to (Module 2 ∷ []) (Module 2) ∷ [])
  pub own_supertype : AreTypesAllowed true 2 3 2 (struct_to (Module 2 ∷ []) (Module 2) ∷ []) → ⊥
  pub unknown_supertype : AreTypesAllowed true 2 3 2 (struct_to (Module 3 ∷ []) (Module 2) ∷ []) → ⊥
  pub unknown_field : AreTypesAllowed true 2 3 2 (struct_to [] (Module 3) ∷ []) → ⊥
