use Rattle.std.proofs.Common.{ap, subst}
use Rattle.wasm_sections_items.specs.imports.Spells.{ImportTree, SpelledImport}
use Rattle.wasm_sections_items.specs.declared.imports.import.Import.{Import}
use Rattle.wasm_module_validator_section_order.specs.rules.Syntax.{ModuleTree}
use Rattle.wasm_module_validator_section_order.specs.rules_in_order.Sections as section
use Rattle.wasm_module_validator_section_order.specs.sections.Kinds.{import_read}
use Rattle.wasm_module_validator_section_order.specs.sections.Sections.{AddsIn}
use Rattle.wasm_module_validator_section_order.specs.items.Adding.{AddsShort}
use Rattle.wasm_module_validator_state.specs.invariant.laws.Growing.{grows_by_none}
use Rattle.wasm_module_validator_payloads.specs.Progress.{Kept, Grows, IsRead, kept}
use Rattle.wasm_module_validator_payloads.specs.laws.Short.{adds_short, some_always, some_from}
use Rattle.wasm_module_validator_payloads.proofs.imports.CollectedAddLentImport.add_lent_short.Goals as goal

-- an import of the code that is this
written : ImportTree → Import
written i = record { «module» = record { ref_ptr = (0, 0); now = i.module_name }; name = record { ref_ptr = (0, 0); now = i.field_name }; ty = i.ty }

pub returns-clause-added : goal.returns-clause-added
unfolding written
returns-clause-added c =
    let inside = c.self.inside in
    let groups = inside.types.groups in
    some_from c.add_short_import.result _ _
    (λ j a. subst (λ (k : Kept). AddsShort import_read import_read SpelledImport (AddsIn section.imports) (IsRead section.imports) k (kept groups c.add_short_import.new.state inside.groups)
    c.args.limits.now c.args.bytes.now c.args.at j) c.self.view_is
    (adds_short section.imports import_read import_read SpelledImport (written a.item) groups inside.state c.add_short_import.new.state c.args.limits.now c.args.bytes.now c.args.at j
    (λ z m n h. ap (λ (t : ModuleTree). t.types) h.2.added) a.added a.bytes inside.groups)) c.add_short_import.ensures.added

pub returns-clause-grown : goal.returns-clause-grown
returns-clause-grown c =
    let inside = c.self.inside in
    let after = c.add_short_import.new.state in
    let grown = grows_by_none inside.types.groups inside.state.spaces after.spaces c.add_short_import.ensures.types in
    some_always c.add_short_import.result _
    (subst (λ (k : Kept). Grows k (kept inside.types.groups after inside.groups)) c.self.view_is
    (record { groups = grown.0; types = grown.1; own = grown.2; settings = c.add_short_import.ensures.settings }))
