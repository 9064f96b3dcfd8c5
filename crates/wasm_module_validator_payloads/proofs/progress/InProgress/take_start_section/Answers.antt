use Rattle.std.proofs.Common.{◌≡◌, ◌∙◌, List, refl, sym, ap, subst}
use Rattle.std.specs.Prelude.{OnOk}
use Rattle.wasm_types.specs.decoding.Decoder.{State, Done}
use Rattle.wasm_types.specs.decoding.Denials.{Tells}
use Rattle.wasm_types.specs.settings.Settings.{Settings}
use Rattle.wasm_sections.specs.Payloads.{only_number}
use Rattle.wasm_module_validator_section_order.specs.declared.items.bodies.Body.{Body}
use Rattle.wasm_module_validator_section_order.specs.rules.Syntax.{ModuleTree}
use Rattle.wasm_module_validator_section_order.specs.rules_in_order.Sections as section
use Rattle.wasm_module_validator_section_order.specs.rules_in_order.Adding.{Adds}
use Rattle.wasm_module_validator_section_order.specs.rules_in_order.Steps.{SoFar, JudgesSection}
use Rattle.wasm_module_validator_state.specs.invariant.Standing.{IsBefore, IsReading}
use Rattle.wasm_module_validator_section_order.specs.sections.laws.Numbers.{start_judged}
use Rattle.wasm_module_validator_payloads.specs.Progress.{Kept, Progress, IsAt}
use Rattle.wasm_module_validator_payloads.specs.laws.Taking.{number_answered, number_added}
use Rattle.wasm_module_validator_payloads.specs.laws.Growing.{stays}
use Rattle.wasm_module_validator_payloads.proofs.progress.InProgress.take_start_section.Goals as goal

pub returns-clause-answer : goal.returns-clause-answer
returns-clause-answer c =
    let r = c.args.self.now in
    let kept = ap (λ x. x.collected) c.self-inside.view_is ∙ (ap (λ (q : Progress). q.kept) c.self.view_is ∙ ap (λ (q : Progress). q.kept) c.begin_section.ensures.begun) in
    number_answered r section.start c.args.func (λ b. only_number b ≡ Done c.args.func b) (λ z p b j h. start_judged z p b b c.args.func j h) c.take_start.result c.in-Ok.ensures.answer
    (subst (λ (k : Kept). (z : Settings) (m : ModuleTree) → IsBefore section.start k.groups k.items z m → Tells c.take_start.result ((t : ModuleTree) × Adds z section.start m c.args.func t)) kept c.take_start.ensures.answer)

pub returns-clause-added : goal.returns-clause-added
returns-clause-added c =
    let r = c.args.self.now in
    let kept = ap (λ x. x.collected) c.self-inside.view_is ∙ (ap (λ (q : Progress). q.kept) c.self.view_is ∙ ap (λ (q : Progress). q.kept) c.begin_section.ensures.begun) in
    subst (λ (a : Progress). OnOk c.take_start.result ((z : Settings) (p q : SoFar) (bodies : List Body) (b : State) → IsAt z r bodies p → b.settings ≡ z → only_number b ≡ Done c.args.func b → JudgesSection z p section.start b.rest q → IsAt z a bodies q)) (sym c.begin_section.ensures.begun)
    (number_added r section.start c.args.func (λ b. only_number b ≡ Done c.args.func b) (λ z p b j h. start_judged z p b b c.args.func j h) c.take_start.result r.kept _ refl c.in-Ok.ensures.answer refl
    (λ z m t a. ap (λ (x : ModuleTree). x.types) a.added) (subst (λ (k : Kept). OnOk c.take_start.result ((z : Settings) (m t : ModuleTree) → IsBefore section.start k.groups k.items z m → Adds z section.start m c.args.func t → IsReading section.start k.groups k.items z t)) kept c.take_start.ensures.added))

pub returns-clause-grown : goal.returns-clause-grown
returns-clause-grown c = stays c.take_start.result _ _ (ap (λ (q : Progress). q.kept) c.begin_section.ensures.begun)
