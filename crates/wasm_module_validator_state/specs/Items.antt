-- A module whose items are checked and added one by one: what a contract sees of it, when an item may be added, and what it is then
-- (WebAssembly 3.0, validation, modules; appendix, implementation limitations).
use Rattle.std.proofs.Common.{suc}
use Rattle.std.specs.Prelude.{◌≡◌, ◌⊎◌, ◌+◌, ◌<◌, ◌≤◌, ℕ, Bool, IsTrue, List, [], ◌∷◌, ◌++◌, length, Option, Some, None, slice_get}
use Rattle.wasm_types.specs.settings.Settings.{Settings}
use Rattle.wasm_types.specs.decoding.declared.error.ErrorKind.{ErrorKind}
use Rattle.wasm_types.specs.decoding.declared.error.ErrorKind.TheVariants.{Other}
use Rattle.wasm_sections_items.specs.declared.imports.kind.ExternalKind.{ExternalKind}
use Rattle.wasm_sections_items.specs.declared.imports.type_ref.TypeRef.{TypeRef}
use Rattle.wasm_sections_items.specs.declared.imports.type_ref.TypeRef.TheVariants as import
use Rattle.wasm_sections_items.specs.imports.Spells.{ImportTree, ExportTree, kind_of}
use Rattle.wasm_module_validator_type_storage.specs.trees.Groups.{Group}
use Rattle.wasm_module_validator_resources.specs.index_spaces.declared.module.Function.{Function}
use Rattle.wasm_module_validator_resources.specs.index_spaces.Spaces.{Spaces, nothing_read}
use Rattle.wasm_module_validator_resources.specs.Reading.{context_of, meaning_of}
use Rattle.wasm_module_validator_checks.specs.rules.Valid.{IsValidImport, IsValidExport, import_size, export_size, most_tables, most_memories}
use Rattle.wasm_module_validator_checks.specs.externs.Refusals.{IsRefusal}
use Rattle.wasm_module_validator_exports.specs.Imports.{IsNamedImport}
use Rattle.wasm_module_validator_exports.specs.names.Exports.{IsNew, names_of}
use Rattle.wasm_module_validator_exports.specs.names.Imports.{ImportedName, with_import as with_name}
use Rattle.wasm_module_validator_exports.specs.declared.names.imports.Place.{Place}
use Rattle.wasm_module_validator_state.specs.Adding.{importing, exporting}
use Rattle.wasm_module_validator_state.specs.Contexts.{with_import, IsWithExport}

-- The module as far as it was read, its imports by their names, its exports, the sum of the sizes of its types, and the index of the
-- function whose code comes next, where code has come.
pub record Items : Type 0 where
  pub spaces : Spaces
  pub imports : List ImportedName
  pub exports : List ExportTree
  pub type_size : ℕ
  pub next_code : Option ℕ

-- no item; the sum of sizes begins at 1
abbrev pub no_items : Settings → Items
no_items z = record { spaces = nothing_read z; imports = []; exports = []; type_size = 1; next_code = None }

-- ---- imports

-- there are fewer of what is imported than the limit
abbrev pub HasRoomFor : TypeRef → Spaces → Type 0
HasRoomFor (import.Func x) s = length s.functions < s.settings.limits.functions
HasRoomFor (import.FuncExact x) s = length s.functions < s.settings.limits.functions
HasRoomFor (import.Table t) s = length s.tables < most_tables s.settings
HasRoomFor (import.Memory t) s = length s.memories < most_memories s.settings
HasRoomFor (import.Global t) s = length s.globals < s.settings.limits.globals
HasRoomFor (import.Tag t) s = length s.tags < s.settings.limits.tags

-- the module has the type that is imported by its index
abbrev pub HasItsType : TypeRef → Spaces → Type 0
HasItsType (import.Func x) s = x < length s.types
HasItsType (import.FuncExact x) s = x < length s.types
HasItsType (import.Table t) s = Unit {0}
HasItsType (import.Memory t) s = Unit {0}
HasItsType (import.Global t) s = Unit {0}
HasItsType (import.Tag t) s = t.func_type_idx < length s.types

-- an import may be added: it is valid, and there is room for it and for the size of its type
pub record IsImportable (groups : List Group) (m : Items) (t : TypeRef) : Type 0 where
  pub valid : IsValidImport m.spaces.settings (context_of groups m.spaces) t
  pub room : HasRoomFor t m.spaces
  pub size : m.type_size + import_size (context_of groups m.spaces) t < m.spaces.settings.limits.type_size

-- how many stand in the space of what is imported: the index that it will have
abbrev pub next_index : TypeRef → Spaces → ℕ
next_index (import.Func x) s = length s.functions
next_index (import.FuncExact x) s = length s.functions
next_index (import.Table t) s = length s.tables
next_index (import.Memory t) s = length s.memories
next_index (import.Global t) s = length s.globals
next_index (import.Tag t) s = length s.tags

abbrev pub next_place : TypeRef → Spaces → Place
next_place t s = record { kind = kind_of t; index = next_index t s }

-- it is added, by a type over ids, and is found by its names
pub record IsImported (groups : List Group) (i : ImportTree) (before after : Items) : Type 0 where
  pub type : TypeRef
  pub named : IsNamedImport (meaning_of groups before.spaces) i.ty type
  pub added : after ≡ record before {
    spaces = importing type before.spaces;
    imports = with_name i.module_name i.field_name (next_place i.ty before.spaces) before.imports;
    type_size = before.type_size + import_size (context_of groups before.spaces) i.ty;
  }
  pub context : context_of groups after.spaces ≡ with_import i.ty (context_of groups before.spaces)

-- What is left where it is not added: the state stays, or, where memory is refused, it has a place by its names alone.
abbrev pub IsLeft : ImportTree → Items → Items → Type 0
IsLeft i before after =
    (after ≡ before) ⊎ (after ≡ record before { imports = with_name i.module_name i.field_name (next_place i.ty before.spaces) before.imports })

-- ---- exports

-- an export may be added: it is valid, its name is new, and there is room for the size of its type; and for it, where that is tested
pub record IsExportable (groups : List Group) (m : Items) (name : List ℕ) (k : ExternalKind) (x : ℕ) (check_limit : Bool) : Type 0 where
  pub valid : IsValidExport m.spaces.settings (context_of groups m.spaces) k x
  pub room : IsTrue check_limit → length m.exports < m.spaces.settings.limits.exports
  pub size : m.type_size + export_size (context_of groups m.spaces) k x < m.spaces.settings.limits.type_size
  pub new : IsNew name (names_of m.exports)

-- it is added
pub record IsExported (groups : List Group) (name : List ℕ) (k : ExternalKind) (x : ℕ) (before after : Items) : Type 0 where
  pub added : after ≡ record before {
    spaces = exporting k x before.spaces;
    exports = before.exports ++ record { name = name; kind = k; index = x } ∷ [];
    type_size = before.type_size + export_size (context_of groups before.spaces) k x;
  }
  pub context : IsWithExport k x (context_of groups before.spaces) (context_of groups after.spaces)

-- ---- code

-- the function whose code comes next: the first is the first that the module has itself
abbrev pub next_function : ℕ → Option ℕ → ℕ
next_function first None = first
next_function first (Some i) = i

-- The next function and the index of its type, which the module has; the one behind it comes next. Where there is no function left
-- nothing changes.
abbrev pub IsNextCode : Items → Items → Option (ℕ × ℕ) → Type 0
IsNextCode before after None = (length before.spaces.functions ≤ next_function before.spaces.imported_functions before.next_code)
    × (after ≡ before)
IsNextCode before after (Some entry) =
    (entry.0 ≡ next_function before.spaces.imported_functions before.next_code)
    × ((f : Function) × (slice_get before.spaces.functions entry.0 ≡ Some f) × (f.type_index ≡ entry.1) × (f.type_index < length before.spaces.types))
    × (after ≡ record before { next_code = Some (suc entry.0) })

-- ---- refusals

-- The kind of a refusal: it is that of the rule, or the item is valid, and is one too many, or has a name that is taken.
abbrev pub IsRefusedBy : ℕ → (ℕ → Type 0) → Type 0 → ErrorKind → Type 0
IsRefusedBy bits P valid k = IsRefusal bits P k ⊎ ((k ≡ Other) × valid)
