-- Worked sizes, and indices of groups.
use Rattle.std.specs.Prelude.{◌≡◌, ℕ, false, [], ◌∷◌}
use Rattle.wasm_types.specs.trees.Types.{number, i32, f64, i8, function, array_of, struct_of, continuation, FieldOf}
use Rattle.wasm_types.specs.trees.declared.index.UnpackedIndex.TheVariants.{RecGroup}
use Rattle.wasm_module_validator_type_storage.specs.trees.Worked.{id, id_of, both}
use Rattle.wasm_module_validator_type_alloc.specs.Canonicalized.{IsNamed, IsIdOf}
use Rattle.wasm_module_validator_type_alloc.specs.Sizes.{capped, size_of, size_between}

-- a field of a byte
abbrev pub byte : FieldOf ℕ
byte = record { storage = i8; mutable = false }

pub record SizesWorked : Type 0 where
  pub nothing : size_of {R = ℕ} (function [] []) ≡ 2
  pub routine : size_of {R = ℕ} (function (number i32 ∷ number i32 ∷ []) (number f64 ∷ [])) ≡ 5
  pub array : size_of {R = ℕ} (array_of byte) ≡ 3
  pub no_fields : size_of {R = ℕ} (struct_of []) ≡ 2
  pub fields : size_of {R = ℕ} (struct_of (byte ∷ byte ∷ [])) ≡ 6
  pub continued : size_of {R = ℕ} (continuation 7) ≡ 2
  pub group : size_between 5 8 ≡ 3
  pub no_types : size_between 5 5 ≡ 0
  pub turned : size_between 8 5 ≡ 0
  pub largest : capped 0xff_ffff ≡ 0xff_ffff
  pub past_it : capped 0x100_0000 ≡ 0xff_ffff
  pub many : size_between 0 0x200_0000 ≡ 0xff_ffff

-- two structs with ids 0 and 1, and one below the second with id 2
pub record IndicesWorked : Type 0 where
  pub place : IsIdOf both 1 (RecGroup 0) (id_of 2)
  pub not_there : IsIdOf both 0 (RecGroup 0) (id_of 2) → ⊥
  pub itself : IsIdOf both 1 (id 0) (id_of 0)
  pub another : IsIdOf both 1 (id 0) (id_of 1) → ⊥
  pub first_place : IsNamed both 0 (RecGroup 1)
  pub no_place : IsNamed both 1 (RecGroup 1) → ⊥
