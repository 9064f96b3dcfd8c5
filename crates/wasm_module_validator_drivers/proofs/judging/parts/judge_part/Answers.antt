use Rattle.std.proofs.Common.{◌≡◌, ◌∙◌, ℕ, List, ap, sym, subst}
use Rattle.wasm_types.specs.decoding.Denials.{Tells}
use Rattle.wasm_types.specs.settings.Settings.{Settings}
use Rattle.wasm_operator_validator_rules.specs.Context.{Module}
use Rattle.wasm_module_validator_resources.specs.Reading.{context_of}
use Rattle.wasm_module_validator_section_order.specs.rules.Valid.{Each}
use Rattle.wasm_module_validator_section_order.specs.items.Bodies.{IsReadBy}
use Rattle.wasm_module_validator_function_bodies.specs.code.Code.{IsFunctionOf}
use Rattle.wasm_module_validator_section_order.specs.declared.items.bodies.Body.{Body}
use Rattle.wasm_module_validator_drivers.specs.judging.Bodies.{ArePartBodies, of_part}
use Rattle.wasm_module_validator_drivers.specs.judging.laws.Judged.{tells_same}
use Rattle.wasm_module_validator_drivers.specs.judging.laws.Parts.{each_of_part, part_bodies_are}
use Rattle.wasm_module_validator_drivers.proofs.judging.parts.judge_part.Goals as goal

pub returns : goal.returns
returns c z q at as_many =
    let bits : z.features ≡ c.features-features.result.0 = sym (c.features-features.ensures ∙ ap (λ (y : Settings). y.features) at.stands.settings) in
    let held = sym (c.limits-limits.ensures.value ∙ ap (λ (y : Settings). y.limits) at.stands.settings) in
    let all : List Body = c.args.bodies.items in
    let part : ℕ = c.args.part in
    let parts : ℕ = c.args.parts in
    let there : Module = context_of c.resources-resources.result.types.now.groups c.resources-resources.result.«module».now in
    let here : Module = context_of c.args.progress.now.kept.groups c.args.progress.now.kept.items.spaces in
    let are_of = λ (m : Module) (xs : List Body). Each (λ (b : Body). IsFunctionOf z m b.type_index b.body.rest) xs in
    let read_by = λ (n : ℕ) (xs : List Body). Each (λ (b : Body). IsReadBy z n b.body) xs in
    let mine : List Body = of_part part parts 0 all in
    let chosen : c.as_slice.result.now ≡ mine = c.as_slice.ensures.value ∙ c.in-Ok.ensures.ok in
    let read = subst (λ (n : ℕ). read_by n mine) bits (each_of_part (λ (b : Body). IsReadBy z z.features b.body) part parts 0 all at.read) in
    let told : Tells c.judge_bodies.result (are_of there c.as_slice.result.now) = c.judge_bodies.ensures z held (subst (λ (xs : List Body). read_by c.features-features.result.0 xs) (sym chosen) read) in
    let same : there ≡ here = λ i. (c.resources-resources.ensures i).«module» in
    tells_same c.judge_bodies.result (are_of here mine) (ArePartBodies z part parts q) (part_bodies_are z c.args.progress.now all q at as_many part parts)
    (subst (λ (xs : List Body). Tells c.judge_bodies.result (are_of here xs)) chosen (subst (λ (m : Module). Tells c.judge_bodies.result (are_of m c.as_slice.result.now)) same told))
