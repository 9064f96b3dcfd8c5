-- Items that are added one by one: when one may be added, what is added with it, and what is left where it is refused (WebAssembly 3.0,
-- validation, modules; appendix, implementation limitations).
use Rattle.std.specs.Prelude.{◌≡◌, ◌+◌, ◌<◌, ℕ, Bool, true, false, List, [], ◌∷◌, Option, Some, None}
use Rattle.wasm_types.specs.settings.Features.{MutableGlobal}
use Rattle.wasm_types.specs.settings.declared.WasmFeatures.{WasmFeatures}
use Rattle.wasm_types.specs.settings.Limits.{default_limits}
use Rattle.wasm_types.specs.settings.Settings.{Settings}
use Rattle.wasm_types.specs.settings.declared.Limits.{Limits}
use Rattle.wasm_types.specs.decoding.declared.error.ErrorKind.TheVariants.{EndOfData, MissingFeature, OutOfMemory, Failed, Other}
use Rattle.wasm_types.specs.trees.worked.Types.{base, routine}
use Rattle.wasm_types.specs.values.declared.value.ValType.TheVariants as value
use Rattle.wasm_types.specs.values.declared.heap.HeapType.{HeapType}
use Rattle.wasm_types.specs.values.declared.heap.HeapType.TheVariants as heap
use Rattle.wasm_types.specs.trees.declared.index.UnpackedIndex.TheVariants.{Module}
use Rattle.wasm_types.specs.values.Reference.{Reference}
use Rattle.wasm_sections_items.specs.declared.imports.kind.ExternalKind.TheVariants as kind
use Rattle.wasm_sections_items.specs.declared.imports.type_ref.TypeRef.{TypeRef}
use Rattle.wasm_sections_items.specs.declared.imports.type_ref.TypeRef.TheVariants as import
use Rattle.wasm_sections_items.specs.imports.Spells.{ImportTree, ExportTree}
use Rattle.wasm_module_validator_exports.specs.Imports.{IsNamedImport}
use Rattle.wasm_module_validator_exports.specs.names.Exports.{export_of, names_of}
use Rattle.wasm_module_validator_exports.specs.names.Imports.{named_of}
use Rattle.wasm_module_validator_exports.specs.declared.names.exports.NamedExport.{NamedExport}
use Rattle.wasm_module_validator_exports.specs.declared.names.imports.NamedImports.{NamedImports}
use Rattle.wasm_module_validator_exports.specs.declared.names.imports.Place.{Place}
use Rattle.wasm_module_validator_initialisers.specs.index_spaces.Spaces.{Spaces, nothing_read, own_function}
use Rattle.wasm_operator_validator_state.specs.resources.Meaning.{Meaning}
use Rattle.wasm_module_validator_section_order.specs.rules.worked.Trees.{everything, funcref, externref, table_with, memory_with, constant_of, variable_of, tag_with}
use Rattle.wasm_module_validator_type_storage.specs.trees.Groups.{Group}
use Rattle.wasm_module_validator_type_storage.specs.trees.Worked.{id, id_of, both}
use Rattle.wasm_module_validator_initialisers.specs.state.Contexts.{AreNamesKnown}
use Rattle.wasm_module_validator_initialisers.specs.state.Adding.{adding_memory, adding_function}
use Rattle.wasm_module_validator_initialisers.specs.state.Items.{Items, no_items, HasRoomFor, IsImportable, next_place, IsImported, IsLeft, IsExportable, IsExported, next_function, IsNextCode, IsRefusedBy}
use Rattle.wasm_module_validator_initialisers.specs.resources.Named.{IsReadOver, IsFunctionId}
use Rattle.wasm_module_validator_initialisers.specs.resources.Reading.{with_types}

-- ---- names of types in imports

-- a module with a struct and a function type, in a list where the function type has the id 0 and the struct the id 1
abbrev pub listed : Meaning
listed = record { «module» = with_types (base ∷ routine ∷ []); ids = routine ∷ base ∷ [] }

-- a reference that may be null, by this name
abbrev pub referring : HeapType → Reference
referring h = record { nullable = true; heap = h }

-- What is imported by ids stands for what is written: tables and globals name types by ids, and nothing else of them changes; the others are
-- themselves.
pub record ImportsNamed : Type 0 where
  pub table : IsNamedImport listed (import.Table (table_with (referring (heap.Concrete (Module 1))) 1)) (import.Table (table_with (referring (heap.Concrete (id 0))) 1))
  pub table_of_another : IsNamedImport listed (import.Table (table_with (referring (heap.Concrete (Module 1))) 1)) (import.Table (table_with (referring (heap.Concrete (id 1))) 1)) → ⊥
  pub table_of_more : IsNamedImport listed (import.Table (table_with funcref 1)) (import.Table (table_with funcref 2)) → ⊥
  pub table_of_most : IsNamedImport listed (import.Table (table_with funcref 1)) (import.Table (record (table_with funcref 1) { maximum = Some 3 })) → ⊥
  pub global : IsNamedImport listed (import.Global (constant_of (value.Ref (referring (heap.Exact (Module 1)))))) (import.Global (constant_of (value.Ref (referring (heap.Exact (id 0))))))
  pub global_of_another : IsNamedImport listed (import.Global (constant_of (value.Ref (referring (heap.Exact (Module 1)))))) (import.Global (constant_of (value.Ref (referring (heap.Exact (id 1)))))) → ⊥
  pub global_written : IsNamedImport listed (import.Global (constant_of value.I32)) (import.Global (variable_of value.I32)) → ⊥
  pub function : IsNamedImport listed (import.Func 1) (import.Func 1)
  pub function_of_another : IsNamedImport listed (import.Func 1) (import.Func 0) → ⊥
  pub function_exactly : IsNamedImport listed (import.Func 1) (import.FuncExact 1) → ⊥
  pub memory : IsNamedImport listed (import.Memory (memory_with 1 None)) (import.Memory (memory_with 1 None))
  pub memory_of_more : IsNamedImport listed (import.Memory (memory_with 1 None)) (import.Memory (memory_with 2 None)) → ⊥
  pub tag : IsNamedImport listed (import.Tag (tag_with 1)) (import.Tag (tag_with 1))
  pub tag_of_another : IsNamedImport listed (import.Tag (tag_with 1)) (import.Tag (tag_with 0)) → ⊥
  pub another_kind : IsNamedImport listed (import.Table (table_with funcref 1)) (import.Memory (memory_with 1 None)) → ⊥

-- what is kept by names, as the module writes it
pub record NamesKept (e : NamedExport) (n : NamedImports) : Type 0 where
  pub its_kind : (export_of e).kind ≡ e.kind
  pub its_index : (export_of e).index ≡ e.index
  pub its_places : (named_of n).places ≡ n.first ∷ n.others.now
  pub names : names_of (record { name = 0x61 ∷ []; kind = kind.Func; index = 3 } ∷ record { name = 0x62 ∷ []; kind = kind.Table; index = 0 } ∷ []) ≡ (0x61 ∷ []) ∷ (0x62 ∷ []) ∷ []

-- ---- which items may be added

-- nothing was read, with every feature, under these limits
abbrev pub under : Limits → Items
under limits = no_items (record { features = 0xfff_ffff; limits = limits })

-- one memory was read
abbrev pub one_memory : Limits → Items
one_memory limits = record (under limits) { spaces = adding_memory (memory_with 1 None) (under limits).spaces }

pub record RoomFor : Type 0 where
  pub function : HasRoomFor (import.Func 0) (under (record default_limits { functions = 1 })).spaces
  pub no_function : HasRoomFor (import.Func 0) (under (record default_limits { functions = 0 })).spaces → ⊥
  pub exact_function : HasRoomFor (import.FuncExact 0) (under (record default_limits { functions = 1 })).spaces
  pub no_exact_function : HasRoomFor (import.FuncExact 0) (under (record default_limits { functions = 0 })).spaces → ⊥
  pub table : HasRoomFor (import.Table (table_with funcref 1)) (under (record default_limits { tables = 1 })).spaces
  pub no_table : HasRoomFor (import.Table (table_with funcref 1)) (under (record default_limits { tables = 0 })).spaces → ⊥
  pub memory : HasRoomFor (import.Memory (memory_with 1 None)) (one_memory (record default_limits { memories = 2 })).spaces
  pub no_memory : HasRoomFor (import.Memory (memory_with 1 None)) (one_memory (record default_limits { memories = 1 })).spaces → ⊥
  pub global : HasRoomFor (import.Global (constant_of value.I32)) (under (record default_limits { globals = 1 })).spaces
  pub no_global : HasRoomFor (import.Global (constant_of value.I32)) (under (record default_limits { globals = 0 })).spaces → ⊥
  pub tag : HasRoomFor (import.Tag (tag_with 0)) (under (record default_limits { tags = 1 })).spaces
  pub no_tag : HasRoomFor (import.Tag (tag_with 0)) (under (record default_limits { tags = 0 })).spaces → ⊥

-- a memory of one page; its size is 1, and that of nothing too
pub record Importable : Type 0 where
  pub memory : IsImportable [] (under (record default_limits { memories = 1; type_size = 3 })) (import.Memory (memory_with 1 None))
  pub not_valid : IsImportable [] (under default_limits) (import.Memory (memory_with 2 (Some 1))) → ⊥
  pub no_room : IsImportable [] (under (record default_limits { memories = 0; type_size = 3 })) (import.Memory (memory_with 1 None)) → ⊥
  pub too_large : IsImportable [] (under (record default_limits { memories = 1; type_size = 2 })) (import.Memory (memory_with 1 None)) → ⊥

-- the one memory by the name "a"; the name "b" is exported already
abbrev pub exporting_b : Limits → Items
exporting_b limits = record (one_memory limits) { exports = record { name = 0x62 ∷ []; kind = kind.Memory; index = 0 } ∷ [] }

pub record Exportable : Type 0 where
  pub memory : IsExportable [] (exporting_b (record default_limits { exports = 2; type_size = 3 })) (0x61 ∷ []) kind.Memory 0 true
  pub untested : IsExportable [] (exporting_b (record default_limits { exports = 1; type_size = 3 })) (0x61 ∷ []) kind.Memory 0 false
  pub no_memory : IsExportable [] (exporting_b default_limits) (0x61 ∷ []) kind.Memory 1 true → ⊥
  pub no_room : IsExportable [] (exporting_b (record default_limits { exports = 1 })) (0x61 ∷ []) kind.Memory 0 true → ⊥
  pub too_large : IsExportable [] (exporting_b (record default_limits { type_size = 2 })) (0x61 ∷ []) kind.Memory 0 true → ⊥
  pub taken : IsExportable [] (exporting_b default_limits) (0x62 ∷ []) kind.Memory 0 true → ⊥

-- ---- what is added

-- a second memory, imported by the names "a" and "b"
abbrev pub second : ImportTree
second = record { module_name = 0x61 ∷ []; field_name = 0x62 ∷ []; ty = import.Memory (memory_with 2 None) }

-- it is added with this place and this size
abbrev pub imported_at : Place → ℕ → Limits → Items
imported_at place size limits = record (one_memory limits) {
  spaces = adding_memory (memory_with 2 None) (one_memory limits).spaces;
  imports = record { module_name = 0x61 ∷ []; field_name = 0x62 ∷ []; places = place ∷ [] } ∷ [];
  type_size = size;
}

pub record Imported (l : Limits) : Type 0 where
  pub added : IsImported [] second (one_memory l) (imported_at (record { kind = kind.Memory; index = 1 }) 2 l)
  pub not_added : IsImported [] second (one_memory l) (one_memory l) → ⊥
  pub another_place : IsImported [] second (one_memory l) (imported_at (record { kind = kind.Memory; index = 0 }) 2 l) → ⊥
  pub another_kind : IsImported [] second (one_memory l) (imported_at (record { kind = kind.Table; index = 1 }) 2 l) → ⊥
  pub another_size : IsImported [] second (one_memory l) (imported_at (record { kind = kind.Memory; index = 1 }) 1 l) → ⊥
  pub left : IsLeft second (one_memory l) (one_memory l)
  pub left_named : IsLeft second (one_memory l) (record (imported_at (record { kind = kind.Memory; index = 1 }) 1 l) { spaces = (one_memory l).spaces })
  pub not_left : IsLeft second (one_memory l) (imported_at (record { kind = kind.Memory; index = 1 }) 2 l) → ⊥
  pub not_left_elsewhere : IsLeft second (one_memory l) (record (imported_at (record { kind = kind.Memory; index = 0 }) 1 l) { spaces = (one_memory l).spaces }) → ⊥

-- where an import of each kind stands: behind one function and one memory
abbrev pub some_spaces : Settings → Spaces
some_spaces z = adding_function 0 (adding_memory (memory_with 1 None) (nothing_read z))

pub record NextPlaces (z : Settings) : Type 0 where
  pub function : next_place (import.Func 0) (some_spaces z) ≡ record { kind = kind.Func; index = 1 }
  pub exact_function : next_place (import.FuncExact 0) (some_spaces z) ≡ record { kind = kind.FuncExact; index = 1 }
  pub table : next_place (import.Table (table_with funcref 1)) (record (some_spaces z) { tables = table_with funcref 1 ∷ table_with funcref 2 ∷ [] }) ≡ record { kind = kind.Table; index = 2 }
  pub memory : next_place (import.Memory (memory_with 1 None)) (some_spaces z) ≡ record { kind = kind.Memory; index = 1 }
  pub global : next_place (import.Global (constant_of value.I32)) (record (some_spaces z) { globals = constant_of value.I32 ∷ [] }) ≡ record { kind = kind.Global; index = 1 }
  pub tag : next_place (import.Tag (tag_with 0)) (record (some_spaces z) { tags = id_of 3 ∷ id_of 4 ∷ [] }) ≡ record { kind = kind.Tag; index = 2 }

-- the memory is exported by the name "a"
abbrev pub exported_as : ℕ → ℕ → Limits → Items
exported_as index size limits = record (one_memory limits) { exports = record { name = 0x61 ∷ []; kind = kind.Memory; index = index } ∷ []; type_size = size }

pub record Exported (l : Limits) : Type 0 where
  pub added : IsExported [] (0x61 ∷ []) kind.Memory 0 (one_memory l) (exported_as 0 2 l)
  pub not_added : IsExported [] (0x61 ∷ []) kind.Memory 0 (one_memory l) (one_memory l) → ⊥
  pub another_index : IsExported [] (0x61 ∷ []) kind.Memory 0 (one_memory l) (exported_as 1 2 l) → ⊥
  pub another_size : IsExported [] (0x61 ∷ []) kind.Memory 0 (one_memory l) (exported_as 0 1 l) → ⊥
  pub another_name : IsExported [] (0x62 ∷ []) kind.Memory 0 (one_memory l) (exported_as 0 2 l) → ⊥

-- ---- code

-- one function is imported, and two of the types 1 and 0 are the module's own; the code of the function at this index comes next
abbrev pub with_code : Settings → Option ℕ → Items
with_code z next = record (no_items z) {
  spaces = record (nothing_read z) { types = id_of 3 ∷ id_of 4 ∷ []; functions = own_function 0 ∷ own_function 1 ∷ own_function 0 ∷ []; imported_functions = 1 };
  next_code = next;
}

pub record NextCode (z : Settings) : Type 0 where
  pub first : next_function 1 None ≡ 1
  pub next : next_function 1 (Some 2) ≡ 2
  pub own : IsNextCode (with_code z None) (with_code z (Some 2)) (Some (1, 1))
  pub behind : IsNextCode (with_code z (Some 2)) (with_code z (Some 3)) (Some (2, 0))
  pub imported : IsNextCode (with_code z None) (with_code z (Some 1)) (Some (0, 0)) → ⊥
  pub of_another_type : IsNextCode (with_code z None) (with_code z (Some 2)) (Some (1, 0)) → ⊥
  pub twice : IsNextCode (with_code z None) (with_code z (Some 1)) (Some (1, 1)) → ⊥
  pub forgotten : IsNextCode (with_code z None) (with_code z None) None → ⊥
  pub all : IsNextCode (with_code z (Some 3)) (with_code z (Some 3)) None
  pub none_changes : IsNextCode (with_code z (Some 3)) (with_code z None) None → ⊥

-- ---- refusals

-- A refusal is that of the rule, or the item is valid and there is another fault.
pub record RefusedBy (f : WasmFeatures) : Type 0 where
  pub by_rule : IsRefusedBy 0 (λ bits. ⊥) ⊥ Other
  pub otherwise : IsRefusedBy 0 (λ bits. Unit {0}) (Unit {0}) Other
  pub not_valid : IsRefusedBy 0 (λ bits. Unit {0}) ⊥ Other → ⊥
  pub not_failed : IsRefusedBy 0 (λ bits. ⊥) (Unit {0}) Failed → ⊥
  pub not_memory : IsRefusedBy 0 (λ bits. ⊥) (Unit {0}) OutOfMemory → ⊥
  pub not_end_of_data : IsRefusedBy 0 (λ bits. ⊥) (Unit {0}) (EndOfData 1) → ⊥

-- ---- what is known of a module and its list

-- of `both`, which has the ids 0, 1 and 2 of structs
pub record NamesKnown (z : Settings) : Type 0 where
  pub nothing : AreNamesKnown [] (nothing_read z)
  pub function : AreNamesKnown [] (record (nothing_read z) { types = id_of 0 ∷ []; functions = own_function 0 ∷ [] })
  pub function_unknown : AreNamesKnown [] (record (nothing_read z) { types = id_of 0 ∷ []; functions = own_function 1 ∷ [] }) → ⊥
  pub table : AreNamesKnown both (record (nothing_read z) { tables = table_with (referring (heap.Concrete (id 2))) 1 ∷ [] })
  pub table_unknown : AreNamesKnown both (record (nothing_read z) { tables = table_with (referring (heap.Concrete (id 3))) 1 ∷ [] }) → ⊥
  pub table_by_index : AreNamesKnown both (record (nothing_read z) { tables = table_with (referring (heap.Concrete (Module 0))) 1 ∷ [] }) → ⊥
  pub global : AreNamesKnown both (record (nothing_read z) { globals = constant_of (value.Ref (referring (heap.Exact (id 2)))) ∷ [] })
  pub global_unknown : AreNamesKnown both (record (nothing_read z) { globals = constant_of (value.Ref (referring (heap.Exact (id 3)))) ∷ [] }) → ⊥
  pub element : AreNamesKnown both (record (nothing_read z) { elements = referring (heap.Concrete (id 2)) ∷ funcref ∷ [] })
  pub element_unknown : AreNamesKnown both (record (nothing_read z) { elements = funcref ∷ referring (heap.Concrete (id 3)) ∷ [] }) → ⊥

pub record ReadOver (z : Settings) : Type 0 where
  pub nothing : IsReadOver [] (nothing_read z)
  pub type_unknown : IsReadOver [] (record (nothing_read z) { types = id_of 0 ∷ [] }) → ⊥
  pub tag_unknown : IsReadOver [] (record (nothing_read z) { tags = id_of 0 ∷ [] }) → ⊥
  pub tag_of_a_struct : IsFunctionId both (id_of 0) → ⊥
