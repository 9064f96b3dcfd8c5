use Rattle.std.proofs.Common.{◌≡◌, ◌∙◌, ◌+◌, ◌≤◌, ℕ, Some, None, length, refl, sym, ap, subst}
use Rattle.std.specs.Prelude.{option_map}
use Rattle.wasm_types.specs.decoding.Denials.{Denies}
use Rattle.wasm_module_validator_section_order.specs.rules_in_order.Sections.{code_place}
use Rattle.wasm_module_validator_payloads.specs.Progress.{Kept, Progress}
use Rattle.wasm_module_validator_payloads.specs.laws.Bodies.{FitsBehind}
use Rattle.wasm_module_validator_drivers.specs.Sharing.{Reached, Handed, body_count}
use Rattle.wasm_module_validator_drivers.proofs.Keeping.{shared_progress, shared_code, shared_left}
use Rattle.wasm_module_validator_drivers.proofs.Handing.{type_at, is_handed_out, none_left, body_denied, no_body, body_may_come, body_follows}
use Rattle.wasm_module_validator_drivers.proofs.sharing.SharedProgress.take_body.Goals as goal

pub returns-in-Err : goal.returns-in-Err
returns-in-Err c =
    let v = c.args.self.now in
    let i = c.self.inside in
    let o = option_map (λ p. p.value) i.shared in
    let shared = c.in-Some.shared.value in
    let is = ap (option_map (λ p. p.value)) c.in-Some.is in
    let here : Progress = record { kept = shared; last = i.last } in
    let same = shared_progress v i.own i.last i.bodies o shared is c.self.view_is in
    let code = ap body_count (shared_code v i.own i.last i.bodies o shared is c.self.view_is) in
    let d = subst (λ (s : Kept). Denies c.in-Err.error.kind (FitsBehind (record { kept = s; last = i.last }) c.args.body.now.rest)) c.deref.ensures c.in-Err.ensures in
    record {
      told = λ z p reached. body_denied v here i.bodies same code c.args.body.now c.in-Err.error.kind d z p reached;
      follows = (
        refl,
        subst (λ (p : Progress). Denies c.in-Err.error.kind ((p.last ≡ code_place) × (length c.args.body.now.rest ≤ p.kept.items.spaces.settings.limits.body_bytes))) (sym same) d,
      );
    }

pub returns-in-None : goal.returns-in-None
returns-in-None c =
    let v = c.args.self.now in
    let i = c.self.inside in
    let o = option_map (λ p. p.value) i.shared in
    let shared = c.in-Some.shared.value in
    let is = ap (option_map (λ p. p.value)) c.in-Some.is in
    let here : Progress = record { kept = shared; last = i.last } in
    let same = shared_progress v i.own i.last i.bodies o shared is c.self.view_is in
    let code = ap body_count (shared_code v i.own i.last i.bodies o shared is c.self.view_is) in
    let none = subst (λ (s : Kept). type_at s (s.items.spaces.imported_functions + i.bodies) ≡ None) c.deref-2.ensures (sym c.in-None.ensures.typed) in
    record { told = λ z p reached. no_body v here i.bodies same code c.args.body.now none z p reached; follows = (refl, none_left v here i.bodies same code c.args.body.now none) }

pub returns : goal.returns
returns c =
    let v = c.args.self.now in
    let i = c.self.inside in
    let o = option_map (λ p. p.value) i.shared in
    let shared = c.in-Some.shared.value in
    let is = ap (option_map (λ p. p.value)) c.in-Some.is in
    let here : Progress = record { kept = shared; last = i.last } in
    let same = shared_progress v i.own i.last i.bodies o shared is c.self.view_is in
    let code = ap body_count (shared_code v i.own i.last i.bodies o shared is c.self.view_is) in
    let index = c.in-Some-function_behind.next.0 in
    let ty = c.in-Some-function_behind.next.1 in
    let found = subst (λ (s : Kept). type_at s (s.items.spaces.imported_functions + i.bodies) ≡ Some ty) c.deref-2.ensures (sym c.in-Some-function_behind.ensures.typed) in
    let place = subst (λ (s : Kept). index ≡ s.items.spaces.imported_functions + i.bodies) c.deref-2.ensures c.in-Some-function_behind.ensures.index in
    let fits = subst (λ (s : Kept). FitsBehind (record { kept = s; last = i.last }) c.args.body.now.rest) c.deref.ensures c.in-Ok.ensures in
    let f : Handed = record { resources = c.new-resources.result; index = index; ty = ty; features = c.features.result; limits = c.limits.result } in
    let left = shared_left v i.own i.last i.bodies o shared is i.last (i.bodies + 1) in
    record {
      told = λ z p reached. body_may_come v here i.bodies same code c.args.body.now index ty found fits z p reached;
      follows = (
        is_handed_out v shared i.last i.bodies c.args.settings.now f same code (c.new-resources.ensures ∙ c.in_ok-clone.ensures.cases) place found c.features.ensures c.limits.ensures.value c.limits.ensures.within,
        ap (λ (r : Reached). r.code) left ∙ ap (λ (m : ℕ). Some (m + 1)) (sym code),
        ap (λ (r : Reached). r.progress.kept) left ∙ sym (ap (λ (p : Progress). p.kept) same),
        body_follows v here i.bodies same code c.args.body.now index ty found _ left,
      );
    }
