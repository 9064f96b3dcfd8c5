-- What imports and exports of a worked module are.
use Rattle.std.proofs.Common.{◌≡◌, refl, ℕ, List, [], ◌∷◌, Bool, true, false, Some, None}
use Rattle.wasm_types.specs.settings.Features.{has, mask, CustomDescriptors}
use Rattle.wasm_types.specs.settings.Limits.{default_limits}
use Rattle.wasm_types.specs.trees.declared.index.CoreTypeId.{CoreTypeId}
use Rattle.wasm_types.specs.values.declared.heap.AbstractHeapType.TheVariants as heap
use Rattle.wasm_types.specs.values.declared.heap.HeapType.TheVariants.{Abstract}
use Rattle.wasm_types.specs.values.declared.value.ValType.TheVariants.{I32}
use Rattle.wasm_types.specs.externs.declared.table.TableType.{TableType}
use Rattle.wasm_types.specs.externs.declared.memory.MemoryType.{MemoryType}
use Rattle.wasm_types.specs.externs.declared.global.GlobalType.{GlobalType}
use Rattle.wasm_types.specs.externs.declared.tag.TagType.{TagType}
use Rattle.wasm_types.specs.externs.declared.tag.TagKind.TheVariants.{Exception}
use Rattle.wasm_sections_items.specs.declared.imports.kind.ExternalKind.{ExternalKind}
use Rattle.wasm_sections_items.specs.declared.imports.kind.ExternalKind.TheVariants as kind
use Rattle.wasm_sections_items.specs.imports.Spells.{ExportTree}
use Rattle.wasm_module_validator_exports.specs.declared.names.imports.Place.{Place}
use Rattle.wasm_module_validator_exports.specs.names.Imports.{ImportedName}
use Rattle.wasm_sections_items.specs.declared.imports.type_ref.TypeRef.TheVariants as import
use Rattle.wasm_module_validator_index_spaces.specs.Spaces.{Spaces, nothing_read, own_function, imported_function}
use Rattle.wasm_module_validator_index_spaces.specs.declared.view.entity.EntityType.TheVariants as entity
use Rattle.wasm_module_validator_index_spaces.specs.view.Entities.{imported_entity, exported_entity, export_entities, import_entities}

-- ---- a module

abbrev id : ℕ → CoreTypeId
id n = record { 0 = n }

-- the first and the third type are equal
abbrev ids : List CoreTypeId
ids = id 7 ∷ id 4 ∷ id 7 ∷ []

abbrev table_of : ℕ → TableType
table_of n = record { element_type = record { nullable = true; heap = Abstract false heap.Func }; table64 = false; initial = n; maximum = None; shared = false }

abbrev memory_of : ℕ → MemoryType
memory_of n = record { memory64 = false; shared = false; initial = n; maximum = None; page_size_log2 = None }

abbrev global_of : Bool → GlobalType
global_of mutable = record { content_type = I32; mutable = mutable; shared = false }

abbrev tag_of : ℕ → TagType
tag_of x = record { kind = Exception; func_type_idx = x }

-- The first function is imported and may be one of a subtype, the second is imported exactly, the third is the module's own.
abbrev module_under : ℕ → Spaces
module_under bits = record (nothing_read (record { features = bits; limits = default_limits })) {
  types = ids;
  functions = imported_function false 1 ∷ imported_function true 0 ∷ own_function 1 ∷ [];
  tables = table_of 1 ∷ table_of 2 ∷ [];
  memories = memory_of 3 ∷ [];
  globals = global_of true ∷ global_of false ∷ [];
  tags = id 4 ∷ id 7 ∷ [];
}

-- where the features have no custom descriptors, and where they have
abbrev plain : Spaces
plain = module_under 0

abbrev exact : Spaces
exact = module_under (mask CustomDescriptors)

-- ---- rows

-- A function and a tag by the ids of their types, and none where there is no type of the index; all else as it is written.
pub record ImportRows : Type 0 where
  pub function : imported_entity ids (import.Func 1) ≡ Some (entity.Func (id 4))
  pub function_of_no_type : imported_entity ids (import.Func 3) ≡ None
  pub exact_function : imported_entity ids (import.FuncExact 0) ≡ Some (entity.FuncExact (id 7))
  pub exact_function_of_no_type : imported_entity ids (import.FuncExact 3) ≡ None
  pub tag : imported_entity ids (import.Tag (tag_of 2)) ≡ Some (entity.Tag (id 7))
  pub tag_of_no_type : imported_entity ids (import.Tag (tag_of 3)) ≡ None
  pub table : imported_entity [] (import.Table (table_of 5)) ≡ Some (entity.Table (table_of 5))
  pub memory : imported_entity [] (import.Memory (memory_of 5)) ≡ Some (entity.Memory (memory_of 5))
  pub global : imported_entity [] (import.Global (global_of true)) ≡ Some (entity.Global (global_of true))

-- What stands at an index, and none past the end. A function by the id of its type, and exactly only where it is known to be of that type
-- and there is the feature: an export that says so, or does not, makes no difference.
pub record ExportRows : Type 0 where
  pub function : exported_entity plain kind.Func 0 ≡ Some (entity.Func (id 4))
  pub exact_import : exported_entity plain kind.Func 1 ≡ Some (entity.Func (id 7))
  pub function_of_the_module : exported_entity plain kind.FuncExact 2 ≡ Some (entity.Func (id 4))
  pub no_function : exported_entity plain kind.Func 3 ≡ None
  pub no_exact_function : exported_entity exact kind.FuncExact 3 ≡ None
  pub function_by_feature : exported_entity exact kind.FuncExact 0 ≡ Some (entity.Func (id 4))
  pub exact_import_by_feature : exported_entity exact kind.Func 1 ≡ Some (entity.FuncExact (id 7))
  pub function_of_the_module_by_feature : exported_entity exact kind.Func 2 ≡ Some (entity.FuncExact (id 4))
  pub table : exported_entity plain kind.Table 1 ≡ Some (entity.Table (table_of 2))
  pub no_table : exported_entity plain kind.Table 2 ≡ None
  pub memory : exported_entity plain kind.Memory 0 ≡ Some (entity.Memory (memory_of 3))
  pub no_memory : exported_entity plain kind.Memory 1 ≡ None
  pub global : exported_entity plain kind.Global 1 ≡ Some (entity.Global (global_of false))
  pub no_global : exported_entity plain kind.Global 2 ≡ None
  pub tag : exported_entity plain kind.Tag 0 ≡ Some (entity.Tag (id 4))
  pub no_tag : exported_entity plain kind.Tag 2 ≡ None

abbrev a : List ℕ
a = 0x61 ∷ []

abbrev b : List ℕ
b = 0x62 ∷ []

abbrev export : List ℕ → ExternalKind → ℕ → ExportTree
export n k x = record { name = n; kind = k; index = x }

abbrev named : List ℕ → List ℕ → List Place → ImportedName
named m f ps = record { module_name = m; field_name = f; places = ps }

abbrev place : ExternalKind → ℕ → Place
place k x = record { kind = k; index = x }

-- Exports in their order, without one whose index is past the end; imports by pairs of names, and all of one pair together.
pub record NamedRows : Type 0 where
  pub no_exports : export_entities plain [] ≡ []
  pub exports : export_entities plain (export b kind.Table 1 ∷ export [] kind.Memory 1 ∷ export a kind.Func 0 ∷ [])
      ≡ (b, entity.Table (table_of 2)) ∷ (a, entity.Func (id 4)) ∷ []
  pub no_imports : import_entities plain [] ≡ []
  pub imports : import_entities exact (named a b (place kind.Func 0 ∷ place kind.Memory 0 ∷ []) ∷ named b b (place kind.FuncExact 1 ∷ []) ∷ [])
      ≡ ((a, b), entity.Func (id 4)) ∷ ((a, b), entity.Memory (memory_of 3)) ∷ ((b, b), entity.FuncExact (id 7)) ∷ []

pub import_rows : ImportRows
import_rows = record {
  function = refl;
  function_of_no_type = refl;
  exact_function = refl;
  exact_function_of_no_type = refl;
  tag = refl;
  tag_of_no_type = refl;
  table = refl;
  memory = refl;
  global = refl;
}

pub export_rows : ExportRows
unfolding has
export_rows = record {
  function = refl;
  exact_import = refl;
  function_of_the_module = refl;
  no_function = refl;
  no_exact_function = refl;
  function_by_feature = refl;
  exact_import_by_feature = refl;
  function_of_the_module_by_feature = refl;
  table = refl;
  no_table = refl;
  memory = refl;
  no_memory = refl;
  global = refl;
  no_global = refl;
  tag = refl;
  no_tag = refl;
}

pub named_rows : NamedRows
unfolding has
named_rows = record {
  no_exports = refl;
  exports = refl;
  no_imports = refl;
  imports = refl;
}
