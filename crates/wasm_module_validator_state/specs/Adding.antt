-- The index spaces of a module with a thing more (WebAssembly 3.0, structure, modules, indices).
use Rattle.std.specs.Prelude.{◌+◌, ℕ, Bool, true, false, ◌∷◌, ◌++◌, [], Some}
use Rattle.wasm_types.specs.values.Reference.{Reference}
use Rattle.wasm_types.specs.externs.declared.table.TableType.{TableType}
use Rattle.wasm_types.specs.externs.declared.memory.MemoryType.{MemoryType}
use Rattle.wasm_types.specs.externs.declared.global.GlobalType.{GlobalType}
use Rattle.wasm_sections_items.specs.declared.imports.kind.ExternalKind.{ExternalKind}
use Rattle.wasm_sections_items.specs.declared.imports.kind.ExternalKind.TheVariants as kind
use Rattle.wasm_sections_items.specs.declared.imports.type_ref.TypeRef.{TypeRef}
use Rattle.wasm_sections_items.specs.declared.imports.type_ref.TypeRef.TheVariants as import
use Rattle.wasm_module_validator_resources.specs.index_spaces.Spaces.{Spaces, id_at, own_function, imported_function, referring_to}

-- a function that the module has itself, by the index of its type; and one that is imported, exactly or not
abbrev pub adding_function : ℕ → Spaces → Spaces
adding_function x s = record s { functions = s.functions ++ own_function x ∷ [] }

abbrev pub importing_function : Bool → ℕ → Spaces → Spaces
importing_function exact x s = record s {
  functions = s.functions ++ imported_function exact x ∷ [];
  imported_functions = s.imported_functions + 1;
}

-- a table and a global by types over ids, a memory, a tag by the index of its type
abbrev pub adding_table : TableType → Spaces → Spaces
adding_table t s = record s { tables = s.tables ++ t ∷ [] }

abbrev pub adding_memory : MemoryType → Spaces → Spaces
adding_memory t s = record s { memories = s.memories ++ t ∷ [] }

abbrev pub adding_global : GlobalType → Spaces → Spaces
adding_global t s = record s { globals = s.globals ++ t ∷ [] }

abbrev pub importing_global : GlobalType → Spaces → Spaces
importing_global t s = record s { globals = s.globals ++ t ∷ []; imported_globals = s.imported_globals + 1 }

abbrev pub adding_tag : ℕ → Spaces → Spaces
adding_tag x s = record s { tags = s.tags ++ id_at s.types x ∷ [] }

-- an element segment, by the type of its elements over ids
abbrev pub adding_element : Reference → Spaces → Spaces
adding_element r s = record s { elements = s.elements ++ r ∷ [] }

-- how many data segments the data count section names
abbrev pub counting_data : ℕ → Spaces → Spaces
counting_data n s = record s { data_count = Some n }

-- code may refer to the function at this place
abbrev pub referring : ℕ → Spaces → Spaces
referring x s = record s { functions = referring_to x s.functions }

-- an import, by its type over ids
abbrev pub importing : TypeRef → Spaces → Spaces
importing (import.Func x) s = importing_function false x s
importing (import.FuncExact x) s = importing_function true x s
importing (import.Table t) s = adding_table t s
importing (import.Memory t) s = adding_memory t s
importing (import.Global t) s = importing_global t s
importing (import.Tag t) s = adding_tag t.func_type_idx s

-- an export: code may refer to a function that is exported
abbrev pub exporting : ExternalKind → ℕ → Spaces → Spaces
exporting kind.Func x s = referring x s
exporting kind.FuncExact x s = referring x s
exporting kind.Table x s = s
exporting kind.Memory x s = s
exporting kind.Global x s = s
exporting kind.Tag x s = s
