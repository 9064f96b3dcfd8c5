-- What an import or an export of a module is (WebAssembly 3.0, structure, modules, imports and exports; exact functions by the proposal
-- on custom descriptors). The type of a function or of a tag is the id that it has in the list of types.
use Rattle.std.specs.Prelude.{ℕ, Bool, true, false, ◌&&◌, List, [], ◌∷◌, ◌++◌, drop, map, flat_map, filter_map, Option, Some, option_map, slice_get}
use Rattle.wasm_types.specs.settings.Features.{CustomDescriptors, has}
use Rattle.wasm_types.specs.trees.declared.index.CoreTypeId.{CoreTypeId}
use Rattle.wasm_types.specs.externs.declared.table.TableType.{TableType}
use Rattle.wasm_types.specs.externs.declared.memory.MemoryType.{MemoryType}
use Rattle.wasm_types.specs.externs.declared.global.GlobalType.{GlobalType}
use Rattle.wasm_sections_items.specs.declared.imports.kind.ExternalKind.{ExternalKind}
use Rattle.wasm_sections_items.specs.declared.imports.kind.ExternalKind.TheVariants as kind
use Rattle.wasm_sections_items.specs.declared.imports.type_ref.TypeRef.{TypeRef}
use Rattle.wasm_sections_items.specs.declared.imports.type_ref.TypeRef.TheVariants as import
use Rattle.wasm_sections_items.specs.imports.Spells.{ExportTree}
use Rattle.wasm_module_validator_exports.specs.declared.names.imports.Place.{Place}
use Rattle.wasm_module_validator_exports.specs.names.Imports.{ImportedName}
use Rattle.wasm_module_validator_index_spaces.specs.declared.module.Function.{Function}
use Rattle.wasm_module_validator_index_spaces.specs.Spaces.{Spaces, id_at}
use Rattle.wasm_module_validator_index_spaces.specs.declared.view.entity.EntityType.{EntityType}
use Rattle.wasm_module_validator_index_spaces.specs.declared.view.entity.EntityType.TheVariants as entity

-- ---- entities

-- a function with the type of this id, of exactly that type or not
abbrev pub function_entity : Bool → CoreTypeId → EntityType
function_entity true id = entity.FuncExact id
function_entity false id = entity.Func id

abbrev pub table_entity : TableType → EntityType
table_entity t = entity.Table t

abbrev pub memory_entity : MemoryType → EntityType
memory_entity t = entity.Memory t

abbrev pub global_entity : GlobalType → EntityType
global_entity t = entity.Global t

abbrev pub tag_entity : CoreTypeId → EntityType
tag_entity id = entity.Tag id

-- ---- imports

-- an import in a module that has types of these ids: none where it has no type of the index that is named
abbrev pub imported_entity : List CoreTypeId → TypeRef → Option EntityType
imported_entity ids (import.Func x) = option_map (function_entity false) (slice_get ids x)
imported_entity ids (import.FuncExact x) = option_map (function_entity true) (slice_get ids x)
imported_entity ids (import.Table t) = Some (entity.Table t)
imported_entity ids (import.Memory t) = Some (entity.Memory t)
imported_entity ids (import.Global t) = Some (entity.Global t)
imported_entity ids (import.Tag t) = option_map tag_entity (slice_get ids t.func_type_idx)

-- ---- exports

-- A function of a module. Only where the features have custom descriptors it is told whether it is of exactly its type.
abbrev pub own_entity : Spaces → Function → EntityType
own_entity s f = function_entity (has CustomDescriptors s.settings.features && f.is_exact) (id_at s.types f.type_index)

-- what stands at an index of the space of this kind: none past its end
abbrev pub exported_entity : Spaces → ExternalKind → ℕ → Option EntityType
exported_entity s kind.Func x = option_map (own_entity s) (slice_get s.functions x)
exported_entity s kind.FuncExact x = option_map (own_entity s) (slice_get s.functions x)
exported_entity s kind.Table x = option_map table_entity (slice_get s.tables x)
exported_entity s kind.Memory x = option_map memory_entity (slice_get s.memories x)
exported_entity s kind.Global x = option_map global_entity (slice_get s.globals x)
exported_entity s kind.Tag x = option_map tag_entity (slice_get s.tags x)

-- ---- all of them, each with what it is

-- an entity by something, where it is there
abbrev pub entity_by : {A : Type 0} → A → Option EntityType → Option (A × EntityType)
entity_by a o = option_map (λ (t : EntityType). (a, t)) o

-- The exports in their order, by their names. One whose index the module does not have is left out; no valid module has one.
abbrev pub export_entities : Spaces → List ExportTree → List (List ℕ × EntityType)
export_entities s es = filter_map (λ (e : ExportTree). entity_by e.name (exported_entity s e.kind e.index)) es

-- what is imported by these names, each by the name of its module and its own name
abbrev pub named_places : ImportedName → List Place → List ((List ℕ × List ℕ) × Place)
named_places n ps = map (λ (p : Place). ((n.module_name, n.field_name), p)) ps

abbrev pub places_of : List ImportedName → List ((List ℕ × List ℕ) × Place)
places_of ns = flat_map (λ (n : ImportedName). named_places n n.places) ns

-- the same behind so many places of the first pair of names
abbrev pub places_behind : ℕ → List ImportedName → List ((List ℕ × List ℕ) × Place)
places_behind given [] = []
places_behind given (n ∷ ns) = named_places n (drop given n.places) ++ places_of ns

-- the same with what stands there
abbrev pub placed_entities : Spaces → List ((List ℕ × List ℕ) × Place) → List ((List ℕ × List ℕ) × EntityType)
placed_entities s ps = filter_map (λ (p : (List ℕ × List ℕ) × Place). entity_by p.0 (exported_entity s p.1.kind p.1.index)) ps

-- the imports by their names, each pair of names with all that is imported by it
abbrev pub import_entities : Spaces → List ImportedName → List ((List ℕ × List ℕ) × EntityType)
import_entities s ns = placed_entities s (places_of ns)
