use Rattle.std.proofs.Common.{ap}
use Rattle.wasm_module_validator_state.specs.invariant.laws.Growing.{grows_by_none}
use Rattle.wasm_sections_items.specs.imports.Spells.{ExportTree, SpelledExport}
use Rattle.wasm_sections_items.specs.declared.imports.export.Export.{Export}
use Rattle.wasm_module_validator_section_order.specs.rules.Syntax.{ModuleTree}
use Rattle.wasm_module_validator_section_order.specs.rules_in_order.Sections as section
use Rattle.wasm_module_validator_section_order.specs.sections.Kinds.{export_read}
use Rattle.wasm_module_validator_payloads.specs.laws.Short.{adds_short}
use Rattle.wasm_module_validator_payloads.proofs.kinds.ExportSectionItem.add_short.Goals as goal

-- an export of the code that is this
written : ExportTree → Export
written e = record { name = record { ref_ptr = (0, 0); now = e.name }; kind = e.kind; index = e.index }

pub returns-in-Some-clause-added : goal.returns-in-Some-clause-added
unfolding written
returns-in-Some-clause-added c =
    let a = c.in-Some.ensures.added in
    adds_short section.exports export_read export_read SpelledExport (written a.item) c.args.types.now.groups c.args.state.now c.add_short_export.new.state c.args.limits.now
    c.args.bytes.now c.args.at c.in-Some.end (λ z m n h. ap (λ (t : ModuleTree). t.types) h.2.added) a.added a.bytes

pub returns-in-Some-clause-grown : goal.returns-in-Some-clause-grown
returns-in-Some-clause-grown c = grows_by_none c.args.types.now.groups c.args.state.now.spaces c.add_short_export.new.state.spaces c.in-Some.ensures.types
