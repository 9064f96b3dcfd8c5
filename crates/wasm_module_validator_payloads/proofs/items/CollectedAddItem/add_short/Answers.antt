use Rattle.std.proofs.Common.{◌≡◌, ℕ, subst}
use Rattle.wasm_module_validator_section_order.specs.sections.Sections.{AddsIn}
use Rattle.wasm_module_validator_section_order.specs.items.Adding.{AddsShort}
use Rattle.wasm_module_validator_payloads.specs.Progress.{Kept, Grows, IsRead, kept}
use Rattle.wasm_module_validator_payloads.specs.laws.Short.{some_from}
use Rattle.wasm_module_validator_payloads.proofs.items.CollectedAddItem.add_short.Goals as goal

pub returns-clause-added : goal.returns-clause-added
returns-clause-added g c =
    let s = g.T.SectionItem.section in
    let inside = c.self.inside in
    some_from c.add_short.result _ _
    (λ j h. subst (λ (k : Kept). AddsShort g.T.FromReader.view g.T.SectionItem.of g.T.FromReader.grammar (AddsIn s) (IsRead s) k
    (kept inside.types.groups c.add_short.new.state inside.groups) c.args.limits.now c.args.bytes.now c.args.at j) c.self.view_is (h inside.groups)) c.add_short.ensures.added
