-- Which rows are written.
use Rattle.std.specs.Prelude.{◌≡◌, ℕ, List, ◌++◌, drop, length, Option, Some, IsSomeAnd}
use Rattle.wasm_types.specs.decoding.Leb.{IsListed, IsUnsigned}
use Rattle.wasm_types.specs.settings.Settings.{Settings}
use Rattle.wasm_sections_items.specs.imports.Spells.{ImportTree, ExportTree, SpelledImport, SpelledExport}
use Rattle.wasm_module_validator_rules.specs.Syntax.{ModuleTree}
use Rattle.wasm_module_validator_rules.specs.Binary.{SpelledModule}
use Rattle.wasm_module_validator_import_export_places.specs.declared.rows.ImportRow.{ImportRow}
use Rattle.wasm_module_validator_import_export_places.specs.declared.rows.ExportRow.{ExportRow}
use Rattle.wasm_module_validator_import_export_places.specs.Entries.{TellsExport, TellsNumbered, Rows, numbered, none_taken}

-- the rows are of these imports, as far as both go
abbrev pub WritesImports : List ℕ → List ImportTree → List ImportRow → Type 0
WritesImports text imports rows = Rows (TellsNumbered text) (numbered none_taken imports) rows

-- the same of exports
abbrev pub WritesExports : List ℕ → List ExportTree → List ExportRow → Type 0
WritesExports text exports rows = Rows (λ e row. TellsExport text row e) exports rows

-- The imports of the module that the bytes spell, by whatever settings: how many there are, and a row for each, in their order, as far as
-- there are rows.
abbrev pub ListsImports : List ℕ → Option ℕ → List ImportRow → Type 0
ListsImports text count rows = (z : Settings) (m : ModuleTree) → SpelledModule z m text → IsSomeAnd count (λ n. (n ≡ length m.imports) × WritesImports text m.imports rows)

-- the same of its exports
abbrev pub ListsExports : List ℕ → Option ℕ → List ExportRow → Type 0
ListsExports text count rows = (z : Settings) (m : ModuleTree) → SpelledModule z m text → IsSomeAnd count (λ n. (n ≡ length m.exports) × WritesExports text m.exports rows)

-- ---- the contents of a section

abbrev pub AreImports : Settings → List ImportTree → List ℕ → Type 0
AreImports z imports text = IsListed (SpelledImport z) imports text

abbrev pub AreExports : Settings → List ExportTree → List ℕ → Type 0
AreExports z exports text = IsListed (SpelledExport z) exports text

-- where a list of entries stands at an offset, they are counted and written
abbrev pub ListsFrom : {A R : Type 0} → (Settings → List A → List ℕ → Type 0) → (List ℕ → List A → List R → Type 0) → List ℕ → ℕ → Option ℕ
    → List R → Type 0
ListsFrom {A} {R} spelled writes text start count rows =
    (z : Settings) (xs : List A) (content rest : List ℕ) → spelled z xs content → drop start text ≡ content ++ rest
    → IsSomeAnd count (λ n. (n ≡ length xs) × writes text xs rows)

-- where a number stands at an offset, it is this
abbrev pub NumberAt : List ℕ → ℕ → Option ℕ → Type 0
NumberAt text start number = (z : Settings) (n : ℕ) (content rest : List ℕ) → IsUnsigned 32 n content → drop start text ≡ content ++ rest → number ≡ Some n

-- the start function of the module that the bytes spell, by whatever settings, if it has one
abbrev pub TellsStart : List ℕ → Option ℕ → Type 0
TellsStart text start = (z : Settings) (m : ModuleTree) → SpelledModule z m text → start ≡ m.start
