use Rattle.std.proofs.Common.{◌≡◌, ◌∙◌, ap, subst}
use Rattle.std.specs.Prelude.{OnOk}
use Rattle.wasm_types.specs.decoding.Decoder.{Done}
use Rattle.wasm_types.specs.decoding.Denials.{Tells}
use Rattle.wasm_types.specs.settings.Settings.{Settings}
use Rattle.wasm_sections.specs.Payloads.{only_number}
use Rattle.wasm_module_validator_section_order.specs.rules.Syntax.{ModuleTree}
use Rattle.wasm_module_validator_section_order.specs.rules_in_order.Sections as section
use Rattle.wasm_module_validator_section_order.specs.rules_in_order.Adding.{Adds}
use Rattle.wasm_module_validator_state.specs.invariant.Standing.{IsBefore, IsReading}
use Rattle.wasm_module_validator_section_order.specs.sections.laws.Numbers.{data_count_judged}
use Rattle.wasm_module_validator_payloads.specs.Progress.{Kept, Progress}
use Rattle.wasm_module_validator_payloads.specs.laws.Taking.{number_answered, number_added}
use Rattle.wasm_module_validator_payloads.proofs.Counting.{always, on_ok}
use Rattle.wasm_module_validator_payloads.specs.laws.Growing.{grown_one, list_stays}
use Rattle.wasm_module_validator_payloads.proofs.progress.InProgress.take_data_count_section.Goals as goal

pub returns-clause-answer : goal.returns-clause-answer
returns-clause-answer c =
    let r = c.args.self.now in
    let kept = ap (λ x. x.collected) c.self-inside.view_is ∙ (ap (λ (q : Progress). q.kept) c.self.view_is ∙ ap (λ (q : Progress). q.kept) c.begin_section.ensures.begun) in
    number_answered r section.data_count c.args.count (λ b. only_number b ≡ Done c.args.count b) (λ z p b j h. data_count_judged z p b b c.args.count j h) c.take_data_count.result c.in-Ok.ensures.answer
    (subst (λ (k : Kept). (z : Settings) (m : ModuleTree) → IsBefore section.data_count k.groups k.items z m → Tells c.take_data_count.result ((t : ModuleTree) × Adds z section.data_count m c.args.count t)) kept (c.take_data_count.ensures.answer _))

pub returns-clause-added : goal.returns-clause-added
returns-clause-added c =
    let r = c.args.self.now in
    let kept = ap (λ x. x.collected) c.self-inside.view_is ∙ (ap (λ (q : Progress). q.kept) c.self.view_is ∙ ap (λ (q : Progress). q.kept) c.begin_section.ensures.begun) in
    number_added r section.data_count c.args.count (λ b. only_number b ≡ Done c.args.count b) (λ z p b j h. data_count_judged z p b b c.args.count j h) c.take_data_count.result _ _
    (ap (λ x. x.last) c.self-inside.view_is ∙ (ap (λ (q : Progress). q.last) c.self.view_is ∙ ap (λ (q : Progress). q.last) c.begin_section.ensures.begun)) c.in-Ok.ensures.answer (ap (λ (k : Kept). k.count) kept)
    (λ z m t a. ap (λ (x : ModuleTree). x.types) a.added) (subst (λ (k : Kept). OnOk c.take_data_count.result ((z : Settings) (m t : ModuleTree) → IsBefore section.data_count k.groups k.items z m → Adds z section.data_count m c.args.count t → IsReading section.data_count c.self-inside.inside.0.0.types.groups c.take_data_count.new.state z t)) kept
    (on_ok c.take_data_count.result _ _ (λ h. h c.self-inside.inside.0.0.types.groups) c.take_data_count.ensures.added))

pub returns-clause-grown : goal.returns-clause-grown
returns-clause-grown c =
    let kept = ap (λ x. x.collected) c.self-inside.view_is ∙ (ap (λ (q : Progress). q.kept) c.self.view_is ∙ ap (λ (q : Progress). q.kept) c.begin_section.ensures.begun) in
    grown_one c.take_data_count.result _ _ _ kept (always c.take_data_count.result _ c.take_data_count.ensures.settings) (list_stays c.take_data_count.result _ c.self-inside.inside.0.0.state.spaces c.take_data_count.new.state.spaces c.take_data_count.ensures.types)
