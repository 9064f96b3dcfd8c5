-- What a row tells of an import and of an export.
use Rattle.std.specs.Prelude.{◌≡◌, ◌≤◌, ℕ, zero, suc, ◌+◌, List, [], ◌∷◌, ◌++◌, length, drop, slice_index_or, slice_set}
use Rattle.wasm_types.specs.settings.Settings.{Settings}
use Rattle.wasm_sections_items.specs.declared.imports.kind.ExternalKind.{ExternalKind}
use Rattle.wasm_sections_items.specs.declared.imports.kind.ExternalKind.TheVariants as kind
use Rattle.wasm_sections_items.specs.declared.imports.type_ref.TypeRef.{TypeRef}
use Rattle.wasm_sections_items.specs.imports.Spells.{ImportTree, ExportTree, SpelledExportKind, SpelledTypeRef, SpelledImport, SpelledExport, kind_of}
use Rattle.wasm_module_validator_import_export_places.specs.declared.rows.ImportRow.{ImportRow}
use Rattle.wasm_module_validator_import_export_places.specs.declared.rows.ExportRow.{ExportRow}

-- a name stands at an offset, in so many bytes
pub record IsNameAt (text : List ℕ) (at_offset n : ℕ) (name : List ℕ) : Type 0 where
  pub count : n ≡ length name
  pub behind : List ℕ
  pub stands : drop at_offset text ≡ name ++ behind

-- the kinds by their numbers; a function of exactly its type is a function
abbrev pub kind_number : ExternalKind → ℕ
kind_number kind.Func = 0
kind_number kind.Table = 1
kind_number kind.Memory = 2
kind_number kind.Global = 3
kind_number kind.Tag = 4
kind_number kind.FuncExact = 0

-- the kind of an import
abbrev pub import_kind : ImportTree → ℕ
import_kind i = kind_number (kind_of i.ty)

-- both names and the kind
pub record TellsImport (text : List ℕ) (row : ImportRow) (i : ImportTree) : Type 0 where
  pub from_module : IsNameAt text row.module_offset row.module_length i.module_name
  pub named : IsNameAt text row.name_offset row.name_length i.field_name
  pub kind : row.kind ≡ import_kind i

-- name, kind and index; what is kept for later is 0
pub record TellsExport (text : List ℕ) (row : ExportRow) (e : ExportTree) : Type 0 where
  pub named : IsNameAt text row.name_offset row.name_length e.name
  pub kind : row.kind ≡ kind_number e.kind
  pub index : row.index ≡ e.index
  pub later : row.later ≡ 0

-- imports with the indices that they get, where so many of each kind were taken before
abbrev pub numbered : List ℕ → List ImportTree → List (ImportTree × ℕ)
numbered taken [] = []
numbered taken (i ∷ more) =
    (i, slice_index_or taken (import_kind i) 0) ∷ numbered (slice_set taken (import_kind i) (slice_index_or taken (import_kind i) 0 + 1)) more

-- of no kind one was taken
abbrev pub none_taken : List ℕ
none_taken = 0 ∷ 0 ∷ 0 ∷ 0 ∷ 0 ∷ []

-- all that a row says of an import that gets an index
pub record TellsNumbered (text : List ℕ) (i : ImportTree × ℕ) (row : ImportRow) : Type 0 where
  pub import : TellsImport text row i.0
  pub index : row.index ≡ i.1

-- each row tells its entry, as far as both go
abbrev pub Rows : {E R : Type 0} → (E → R → Type 0) → List E → List R → Type 0
Rows tells [] rows = Unit {0}
Rows tells (e ∷ es) [] = Unit {0}
Rows tells (e ∷ es) (row ∷ rows) = tells e row × Rows tells es rows

-- ---- rows of any bytes

-- the names lie in the bytes
pub record ImportWithin (text : List ℕ) (row : ImportRow) : Type 0 where
  pub from_module : row.module_offset + row.module_length ≤ length text
  pub named : row.name_offset + row.name_length ≤ length text

-- the name lies in the bytes
abbrev pub ExportWithin : List ℕ → ExportRow → Type 0
ExportWithin text row = row.name_offset + row.name_length ≤ length text

-- so many of the first rows are so, as far as there are rows
abbrev pub First : {R : Type 0} → (R → Type 0) → ℕ → List R → Type 0
First P zero rows = Unit {0}
First P (suc n) [] = Unit {0}
First P (suc n) (row ∷ rows) = P row × First P n rows

-- ---- what spells the parts of an entry

abbrev pub IsType : Settings → TypeRef → List ℕ → Type 0
IsType z t text = SpelledTypeRef t text

abbrev pub IsKindOf : ℕ → TypeRef → Type 0
IsKindOf n t = n ≡ kind_number (kind_of t)

abbrev pub IsExportKind : Settings → ExternalKind → List ℕ → Type 0
IsExportKind z k text = SpelledExportKind k text

abbrev pub IsKindNumber : ℕ → ExternalKind → Type 0
IsKindNumber n k = n ≡ kind_number k

abbrev pub IsImport : Settings → ImportTree → List ℕ → Type 0
IsImport z i text = SpelledImport z i text

abbrev pub IsExport : Settings → ExportTree → List ℕ → Type 0
IsExport z e text = SpelledExport z e text
