-- What the rows tell C of a module's imports and exports.
use Rattle.std.specs.Prelude.{◌≡◌, ◌^◌, ◌-◌, ℕ, List, length, Option, Some, None}
use Rattle.wasm_types.specs.settings.Settings.{Settings}
use Rattle.wasm_module_validator_import_export_places.specs.rules.Syntax.{ModuleTree}
use Rattle.wasm_module_validator_import_export_places.specs.rules.Binary.{SpelledModule}
use Rattle.wasm_module_validator_import_export_places.specs.declared.rows.ImportRow.{ImportRow}
use Rattle.wasm_module_validator_import_export_places.specs.declared.rows.ExportRow.{ExportRow}
use Rattle.wasm_module_validator_import_export_places.specs.Entries.{ImportWithin, ExportWithin, First}
use Rattle.wasm_module_validator_import_export_places.specs.Listing.{WritesImports, WritesExports}

-- how many imports the module has that the bytes spell, by whatever settings, and a row for each as far as there are rows
abbrev pub TellsImports : ℕ → List ℕ → List ImportRow → Type 0
TellsImports count bytes rows = (z : Settings) (m : ModuleTree) → SpelledModule z m bytes → (count ≡ length m.imports)
    × WritesImports bytes m.imports rows

-- the same of its exports
abbrev pub TellsExports : ℕ → List ℕ → List ExportRow → Type 0
TellsExports count bytes rows = (z : Settings) (m : ModuleTree) → SpelledModule z m bytes → (count ≡ length m.exports)
    × WritesExports bytes m.exports rows

-- the answer for bytes of no module
abbrev pub no_module : ℕ
no_module = 2 ^ 64 - 1

-- of whatever bytes: unless the answer is that, the names of all rows that were written lie in the bytes
abbrev pub ImportsWithin : ℕ → List ℕ → List ImportRow → Type 0
ImportsWithin count bytes rows = ¬ (count ≡ no_module) → First (ImportWithin bytes) count rows

-- the same of exports
abbrev pub ExportsWithin : ℕ → List ℕ → List ExportRow → Type 0
ExportsWithin count bytes rows = ¬ (count ≡ no_module) → First (ExportWithin bytes) count rows

-- the number of a start function, or that of no module
abbrev pub start_number : Option ℕ → ℕ
start_number None = no_module
start_number (Some index) = index

-- the start function of the module that the bytes spell, by whatever settings
abbrev pub TellsStartOf : ℕ → List ℕ → Type 0
TellsStartOf answer bytes = (z : Settings) (m : ModuleTree) → SpelledModule z m bytes → answer ≡ start_number m.start
