use Rattle.std.proofs.Common.{◌∙◌, refl, sym, ap, Ok, Err, inr}
use Rattle.std.specs.Prelude.{option_map}
use Rattle.wasm_types.specs.decoding.Decoder.{State}
use Rattle.wasm_types.specs.settings.Settings.{Settings}
use Rattle.wasm_sections.specs.declared.payload.Payload.TheVariants as payloads
use Rattle.wasm_sections.specs.Payloads.{Counts}
use Rattle.wasm_module_validator_payloads.specs.Progress.{Kept, Progress}
use Rattle.wasm_module_validator_drivers.specs.Sharing.{Reached}
use Rattle.wasm_module_validator_drivers.proofs.Keeping.{settings_are, shared_progress, shared_code, shared_left, data_told, data_follows}
use Rattle.wasm_module_validator_drivers.proofs.sharing.SharedProgress.take_data.Goals as goal

pub returns-in-Err-clause-answer : goal.returns-in-Err-clause-answer
returns-in-Err-clause-answer c =
    let v = c.args.self.now in
    let i = c.self.inside in
    let o = option_map (λ p. p.value) i.shared in
    let shared = c.in-Some.shared.value in
    let is = ap (option_map (λ p. p.value)) c.in-Some.is in
    let here : Progress = record { kept = c.deref-3.result.now; last = i.last } in
    let moved = c.deref-3.ensures in
    let same = shared_progress v i.own i.last i.bodies o shared is c.self.view_is ∙ (λ j. record { kept = sym moved j; last = i.last }) in
    let anew = c.read_by-anew.result in
    let y : Settings = record { features = c.features.result.0; limits = c.limits.result } in
    let by = settings_are here.kept.items.spaces.settings y.features y.limits
    (c.features.ensures ∙ ap (λ (k : Kept). k.items.spaces.settings.features) (c.deref.ensures ∙ sym moved))
    (c.limits.ensures.value ∙ ap (λ (k : Kept). k.items.spaces.settings.limits) (c.deref-2.ensures ∙ sym moved)) in
    inr (data_told v here same (payloads.DataSection c.args.segments) tt (payloads.DataSection anew) y (ap (λ (s : _). payloads.DataSection s) c.read_by-anew.ensures) by refl
    (λ (b : State). Counts b anew.count anew.reader) (λ id b k. k) {X = Unit {0}} (Err c.in-Err.error)
    c.in-Err.ensures.answer)

pub returns-clause-answer : goal.returns-clause-answer
returns-clause-answer c =
    let v = c.args.self.now in
    let i = c.self.inside in
    let o = option_map (λ p. p.value) i.shared in
    let shared = c.in-Some.shared.value in
    let is = ap (option_map (λ p. p.value)) c.in-Some.is in
    let here : Progress = record { kept = c.deref-3.result.now; last = i.last } in
    let moved = c.deref-3.ensures in
    let same = shared_progress v i.own i.last i.bodies o shared is c.self.view_is ∙ (λ j. record { kept = sym moved j; last = i.last }) in
    let anew = c.read_by-anew.result in
    let y : Settings = record { features = c.features.result.0; limits = c.limits.result } in
    let by = settings_are here.kept.items.spaces.settings y.features y.limits
    (c.features.ensures ∙ ap (λ (k : Kept). k.items.spaces.settings.features) (c.deref.ensures ∙ sym moved))
    (c.limits.ensures.value ∙ ap (λ (k : Kept). k.items.spaces.settings.limits) (c.deref-2.ensures ∙ sym moved)) in
    data_told v here same (payloads.DataSection c.args.segments) tt (payloads.DataSection anew) y (ap (λ (s : _). payloads.DataSection s) c.read_by-anew.ensures) by refl
    (λ (b : State). Counts b anew.count anew.reader) (λ id b k. k) {X = Unit {0}} (Ok tt)
    c.in-Ok.ensures.answer

pub returns-clause-added : goal.returns-clause-added
returns-clause-added c =
    let v = c.args.self.now in
    let i = c.self.inside in
    let o = option_map (λ p. p.value) i.shared in
    let shared = c.in-Some.shared.value in
    let is = ap (option_map (λ p. p.value)) c.in-Some.is in
    let here : Progress = record { kept = c.deref-3.result.now; last = i.last } in
    let moved = c.deref-3.ensures in
    let same = shared_progress v i.own i.last i.bodies o shared is c.self.view_is ∙ (λ j. record { kept = sym moved j; last = i.last }) in
    let anew = c.read_by-anew.result in
    let y : Settings = record { features = c.features.result.0; limits = c.limits.result } in
    let by = settings_are here.kept.items.spaces.settings y.features y.limits
    (c.features.ensures ∙ ap (λ (k : Kept). k.items.spaces.settings.features) (c.deref.ensures ∙ sym moved))
    (c.limits.ensures.value ∙ ap (λ (k : Kept). k.items.spaces.settings.limits) (c.deref-2.ensures ∙ sym moved)) in
    let code = shared_code v i.own i.last i.bodies o shared is c.self.view_is in
    data_follows v here same (payloads.DataSection c.args.segments) tt (payloads.DataSection anew) y (ap (λ (s : _). payloads.DataSection s) c.read_by-anew.ensures) by refl
    (λ (b : State). Counts b anew.count anew.reader) (λ id b k. k) {X = Unit {0}} (Ok tt)
    (record { kept = c.deref-3.result.now; last = 13 }) _
    (shared_left v i.own i.last i.bodies o shared is 13 i.bodies ∙ (λ j. record { progress = record { kept = sym moved j; last = 13 }; code = sym code j })) c.in-Ok.ensures.added

pub returns-clause-code : goal.returns-clause-code
returns-clause-code c =
    let v = c.args.self.now in
    let i = c.self.inside in
    let o = option_map (λ p. p.value) i.shared in
    let is = ap (option_map (λ p. p.value)) c.in-Some.is in
    ap (λ (r : Reached). r.code) (shared_left v i.own i.last i.bodies o c.in-Some.shared.value is 13 i.bodies) ∙ sym (shared_code v i.own i.last i.bodies o c.in-Some.shared.value is c.self.view_is)

pub returns-clause-kept : goal.returns-clause-kept
returns-clause-kept c =
    let v = c.args.self.now in
    let i = c.self.inside in
    let o = option_map (λ p. p.value) i.shared in
    let is = ap (option_map (λ p. p.value)) c.in-Some.is in
    ap (λ (r : Reached). r.progress.kept) (shared_left v i.own i.last i.bodies o c.in-Some.shared.value is 13 i.bodies)
    ∙ sym (ap (λ (p : Progress). p.kept) (shared_progress v i.own i.last i.bodies o c.in-Some.shared.value is c.self.view_is))
