-- Imports by their names, and names that are new: worked.
use Rattle.std.specs.Prelude.{◌≡◌, ℕ, List, [], ◌∷◌}
use Rattle.std.proofs.Common.{refl}
use Rattle.wasm_sections_items.specs.declared.imports.kind.ExternalKind.{ExternalKind}
use Rattle.wasm_sections_items.specs.declared.imports.kind.ExternalKind.TheVariants as kind
use Rattle.wasm_module_validator_exports.specs.declared.names.imports.Place.{Place}
use Rattle.wasm_module_validator_exports.specs.names.Exports.{IsNew}
use Rattle.wasm_module_validator_exports.specs.names.Imports.{ImportedName, with_import}

-- ---- names

-- "a", "b", "ab"
abbrev a : List ℕ
a = 0x61 ∷ []

abbrev b : List ℕ
b = 0x62 ∷ []

abbrev ab : List ℕ
ab = 0x61 ∷ 0x62 ∷ []

abbrev place : ExternalKind → ℕ → Place
place k x = record { kind = k; index = x }

abbrev by : List ℕ → List ℕ → List Place → ImportedName
by m f ps = record { module_name = m; field_name = f; places = ps }

-- two functions and a table: the table by the names of the first function
abbrev three : List ImportedName
three = with_import a b (place kind.Table 0) (with_import ab b (place kind.Func 1) (with_import a b (place kind.Func 0) []))

-- ---- rows

-- Imports of one pair of names stand together where the pair came first; a pair is another where either name is, however the two are
-- joined.
pub record ImportRows : Type 0 where
  pub first : with_import a b (place kind.Func 0) [] ≡ by a b (place kind.Func 0 ∷ []) ∷ []
  pub together : three ≡ by a b (place kind.Func 0 ∷ place kind.Table 0 ∷ []) ∷ by ab b (place kind.Func 1 ∷ []) ∷ []
  pub other_field : with_import a ab (place kind.Tag 0) (by a b (place kind.Func 0 ∷ []) ∷ [])
      ≡ by a b (place kind.Func 0 ∷ []) ∷ by a ab (place kind.Tag 0 ∷ []) ∷ []
  pub joined_alike : with_import ab [] (place kind.Tag 0) (by a b (place kind.Func 0 ∷ []) ∷ [])
      ≡ by a b (place kind.Func 0 ∷ []) ∷ by ab [] (place kind.Tag 0 ∷ []) ∷ []

-- A name is new where none is equal to it, and not because one begins with it.
pub record NameRows : Type 0 where
  pub new : IsNew a (ab ∷ [] ∷ [])
  pub taken : IsNew a (ab ∷ a ∷ []) → ⊥

pub import_rows : ImportRows
import_rows = record {
  first = refl;
  together = refl;
  other_field = refl;
  joined_alike = refl;
}

pub name_rows : NameRows
name_rows = record {
  new = ((λ e. cc), ((λ e. cc), tt));
  taken = λ h. h.1.0 refl;
}
