use Rattle.std.proofs.Common.{◌≡◌, ◌∙◌, ℕ, List, ap, sym, subst}
use Rattle.wasm_types.specs.decoding.Denials.{Tells}
use Rattle.wasm_types.specs.settings.Settings.{Settings}
use Rattle.wasm_operator_validator_rules.specs.Context.{Module}
use Rattle.wasm_module_validator_resources.specs.Reading.{context_of}
use Rattle.wasm_module_validator_section_order.specs.rules.Valid.{Each}
use Rattle.wasm_module_validator_section_order.specs.items.Bodies.{IsReadBy}
use Rattle.wasm_module_validator_function_bodies.specs.code.Code.{IsFunctionOf}
use Rattle.wasm_module_validator_section_order.specs.declared.items.bodies.Body.{Body}
use Rattle.wasm_module_validator_drivers.specs.judging.Bodies.{AreBodies}
use Rattle.wasm_module_validator_drivers.specs.judging.laws.Judged.{tells_same, bodies_are}
use Rattle.wasm_module_validator_drivers.proofs.judging.judging.judge.Goals as goal

pub returns : goal.returns
returns c z q at as_many =
    let bits : z.features ≡ c.features-features.result.0 = sym (c.features-features.ensures ∙ ap (λ (y : Settings). y.features) at.stands.settings) in
    let held = sym (c.limits-limits.ensures.value ∙ ap (λ (y : Settings). y.limits) at.stands.settings) in
    let bs : List Body = c.args.bodies.now in
    let there : Module = context_of c.resources-resources.result.types.now.groups c.resources-resources.result.«module».now in
    let here : Module = context_of c.args.progress.now.kept.groups c.args.progress.now.kept.items.spaces in
    let are_of = λ (m : Module) (xs : List Body). Each (λ (b : Body). IsFunctionOf z m b.type_index b.body.rest) xs in
    let told : Tells c.judge_bodies.result (are_of there bs) = c.judge_bodies.ensures z held (subst (λ (n : ℕ). Each (λ (b : Body). IsReadBy z n b.body) bs) bits at.read) in
    let same : there ≡ here = λ i. (c.resources-resources.ensures i).«module» in
    tells_same c.judge_bodies.result (are_of here bs) (AreBodies z q) (bodies_are z c.args.progress.now bs q at as_many)
    (subst (λ (m : Module). Tells c.judge_bodies.result (are_of m bs)) same told)
