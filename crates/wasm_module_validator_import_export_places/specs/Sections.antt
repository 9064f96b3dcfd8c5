-- Where a section is found.
use Rattle.std.specs.Prelude.{◌≡◌, ℕ, ◌≤◌, List, ◌++◌, drop, length, Option, Some, None}
use Rattle.wasm_types.specs.settings.Settings.{Settings}
use Rattle.wasm_sections_items.specs.frames.Outer.{Outer, SpelledOuter}
use Rattle.wasm_module_validator_rules.specs.Binary.{contents}
use Rattle.wasm_module_validator_import_export_places.specs.declared.sections.Section.{Section}
use Rattle.wasm_module_validator_import_export_places.specs.declared.sections.Section.TheVariants.{Broken, Absent, At}

-- contents of a section begin where it was found, if there is one
abbrev pub Found : List ℕ → Option (List ℕ) → Section → Type 0
Found text None Absent = Unit {0}
Found text (Some content) (At start) = (rest : List ℕ) × (drop start text ≡ content ++ rest)
Found text None Broken = ⊥
Found text None (At start) = ⊥
Found text (Some content) Broken = ⊥
Found text (Some content) Absent = ⊥

-- the same of each module that the bytes are, frame by frame
abbrev pub FindsSection : ℕ → List ℕ → Section → Type 0
FindsSection id text s = (z : Settings) (o : Outer) → SpelledOuter z o text → Found text (contents id o.parts) s

-- it begins in the bytes
abbrev pub BeginsWithin : List ℕ → Section → Type 0
BeginsWithin text Broken = Unit {0}
BeginsWithin text Absent = Unit {0}
BeginsWithin text (At start) = start ≤ length text
