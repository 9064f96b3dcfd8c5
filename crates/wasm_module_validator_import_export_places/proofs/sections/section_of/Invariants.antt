use Rattle.std.proofs.Common.{◌≤◌, ◌-◌, length}
use Rattle.wasm_types.specs.settings.Settings.{Settings}
use Rattle.wasm_sections_items.specs.frames.Outer.{Outer, SpelledOuter}
use Rattle.wasm_module_validator_import_export_places.proofs.Parting.{Left}
use Rattle.wasm_module_validator_import_export_places.proofs.sections.section_of.Given as goal

-- the section is among the parts that are left
abbrev pub invariant-loop-at : goal.invariant-loop-at
invariant-loop-at l =
    record {
      inside : l.at ≤ length l.bytes;
      parts : (z : Settings) (o : Outer) → SpelledOuter z o l.bytes → Left z l.id l.bytes l.at o;
    }

abbrev pub decreases-loop-at : goal.decreases-loop-at
decreases-loop-at l = length l.bytes - l.at
