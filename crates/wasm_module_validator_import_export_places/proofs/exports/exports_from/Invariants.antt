use Rattle.std.proofs.Common.{◌≡◌, ◌≤◌, ◌++◌, ℕ, List, length, drop}
use Rattle.wasm_types.specs.decoding.Decoder.{Many}
use Rattle.wasm_types.specs.settings.Settings.{Settings}
use Rattle.wasm_sections_items.specs.imports.Spells.{ExportTree, SpelledExport}
use Rattle.wasm_module_validator_import_export_places.specs.Entries.{ExportWithin, First}
use Rattle.wasm_module_validator_import_export_places.proofs.Reading.{ExportsGo}
use Rattle.wasm_module_validator_import_export_places.proofs.exports.exports_from.Given as goal

-- rows of those that were read, and the others are left
abbrev pub invariant-loop-place : goal.invariant-loop-place
invariant-loop-place l =
    record {
      inside : l.at ≤ length l.bytes;
      within : First (ExportWithin l.bytes) l.place l.rows;
      entries : (z : Settings) (xs : List ExportTree) (values rest : List ℕ) → Many (SpelledExport z) (length xs) xs values → drop l.first l.bytes ≡ values ++ rest → length xs ≡ l.count
          → ExportsGo z xs rest l.bytes l.place l.at l.rows;
    }
