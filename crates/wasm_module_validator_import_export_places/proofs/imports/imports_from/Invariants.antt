use Rattle.std.proofs.Common.{◌≡◌, ◌≤◌, ◌++◌, ℕ, List, length, drop, get_or}
use Rattle.wasm_types.specs.decoding.Decoder.{Many}
use Rattle.wasm_types.specs.settings.Settings.{Settings}
use Rattle.wasm_sections_items.specs.imports.Spells.{ImportTree, SpelledImport}
use Rattle.wasm_module_validator_import_export_places.specs.Entries.{ImportWithin, First}
use Rattle.wasm_module_validator_import_export_places.proofs.Reading.{ImportsGo}
use Rattle.wasm_module_validator_import_export_places.proofs.imports.imports_from.Given as goal

-- rows of those that were read, and the others are left
abbrev pub invariant-loop-place : goal.invariant-loop-place
invariant-loop-place l =
    record {
      inside : l.at ≤ length l.bytes;
      within : First (ImportWithin l.bytes) l.place l.rows;
      kinds : length l.taken ≡ 5;
      few : (k : ℕ) → get_or l.taken k 0 ≤ l.place;
      entries : (z : Settings) (xs : List ImportTree) (values rest : List ℕ) → Many (SpelledImport z) (length xs) xs values → drop l.first l.bytes ≡ values ++ rest → length xs ≡ l.count
          → ImportsGo z xs rest l.bytes l.place l.at l.taken l.rows;
    }
