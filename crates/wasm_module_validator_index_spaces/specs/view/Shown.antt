-- What is looked up in a module that was read: the id of the validator that read it, the groups of the list of types, the index spaces
-- (WebAssembly 3.0, structure, modules, indices), the imports by their names and the exports (structure, modules, imports and exports).
use Rattle.std.specs.Prelude.{◌≡◌, ◌<◌, ℕ, zero, suc, List, [], ◌∷◌, Some, slice_get}
use Rattle.wasm_types.specs.trees.declared.index.CoreTypeId.{CoreTypeId}
use Rattle.wasm_types.specs.Entries.{Declared}
use Rattle.wasm_module_validator_type_storage.specs.trees.Groups.{Group, count, declared_by_id}
use Rattle.wasm_sections_items.specs.imports.Spells.{ExportTree}
use Rattle.wasm_module_validator_index_spaces.specs.Spaces.{Spaces}
use Rattle.wasm_module_validator_exports.specs.names.Imports.{ImportedName}
use Rattle.wasm_module_validator_index_spaces.specs.declared.view.validator_id.ValidatorId.{ValidatorId}

pub record Shown : Type 0 where
  pub id : ValidatorId
  pub groups : List Group
  pub spaces : Spaces
  pub imports : List ImportedName
  pub exports : List ExportTree

-- the list has this id
abbrev pub knows : Shown → CoreTypeId → Type 0
knows r id = id.0 < count r.groups

-- this is the type of this id: it names the types of its group by their ids
abbrev pub is_type_of : Shown → CoreTypeId → Declared → Type 0
is_type_of r id t = slice_get (declared_by_id r.groups) id.0 ≡ Some t

-- so many ids, one behind the other
abbrev pub ids_from : ℕ → ℕ → List CoreTypeId
ids_from first zero = []
ids_from first (suc n) = record { 0 = first } ∷ ids_from (suc first) n
