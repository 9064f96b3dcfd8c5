use Rattle.std.proofs.Common.{◌≡◌, ◌∙◌, ◌+◌, ◌≤◌, ℕ, List, ◌∷◌, [], ◌++◌, length, sym, ap, subst, slice_get}
use Rattle.std.specs.Prelude.{option_map}
use Rattle.wasm_types.specs.decoding.Denials.{Denies}
use Rattle.wasm_module_validator_resources.specs.index_spaces.declared.module.Function.{Function}
use Rattle.wasm_module_validator_section_order.specs.declared.items.bodies.Body.{Body}
use Rattle.wasm_module_validator_section_order.specs.rules_in_order.Sections.{code_place}
use Rattle.wasm_module_validator_payloads.specs.Progress.{Progress, IsAt}
use Rattle.wasm_module_validator_payloads.specs.laws.Bodies.{function_is, judges, body_behind, fits, not_fitting}
use Rattle.wasm_module_validator_payloads.proofs.progress.InProgress.take_body.Goals as goal

pub returns-in-Err-clause-answer : goal.returns-in-Err-clause-answer
returns-in-Err-clause-answer c = λ z p at same.
    let r = c.args.self.now in
    not_fitting z p r c.args.bodies.now.items at c.in-Err.error.kind c.args.body.rest
    (subst (λ (n : ℕ). Denies c.in-Err.error.kind ((n ≡ code_place) × (length c.args.body.rest ≤ r.kept.items.spaces.settings.limits.body_bytes)))
    (ap (λ (q : Progress). q.last) c.self.view_is) c.in-Err.ensures.answer)

pub returns-clause-answer : goal.returns-clause-answer
returns-clause-answer c = λ z p at same.
    let r = c.args.self.now in
    let b : Body = record { index = c.in-Some.index; type_index = c.in-Some.type_index; body = c.args.body } in
    let w = fits z p r c.args.bodies.now.items at c.args.body.rest
    (subst (λ (n : ℕ). (n ≡ code_place) × (length c.args.body.rest ≤ r.kept.items.spaces.settings.limits.body_bytes)) (ap (λ (q : Progress). q.last) c.self.view_is) c.in-Ok.ensures.answer) in
    let place = ap (λ (n : ℕ). option_map (λ (f : Function). f.type_index) (slice_get r.kept.items.spaces.functions (r.kept.items.spaces.imported_functions + n))) (ap length c.as_slice-kept.ensures.value) in
    let function = sym (ap (option_map (λ (x : ℕ × ℕ). x.1)) (sym c.in-Some.is) ∙ (c.function_behind.ensures.typed ∙ (place ∙ function_is z p r c.args.bodies.now.items at))) in
    (record p { bodies = p.bodies ++ c.args.body.rest ∷ [] }, judges z p r c.args.bodies.now.items at b w.0 w.1 function)

pub returns-clause-added : goal.returns-clause-added
returns-clause-added c = λ z p q at same j.
    let r = c.args.self.now in
    let b : Body = record { index = c.in-Some.index; type_index = c.in-Some.type_index; body = c.args.body } in
    let place = ap (λ (n : ℕ). option_map (λ (f : Function). f.type_index) (slice_get r.kept.items.spaces.functions (r.kept.items.spaces.imported_functions + n))) (ap length c.as_slice-kept.ensures.value) in
    let function = sym (ap (option_map (λ (x : ℕ × ℕ). x.1)) (sym c.in-Some.is) ∙ (c.function_behind.ensures.typed ∙ (place ∙ function_is z p r c.args.bodies.now.items at))) in
    let items = c.in_ok-push.ensures.items in
    subst (λ (bs : List Body). IsAt z r bs q) (sym items) (body_behind z p r c.args.bodies.now.items at b j.begun j.within function same q j)
