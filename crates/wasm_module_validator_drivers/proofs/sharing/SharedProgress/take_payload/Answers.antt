use Rattle.std.proofs.Common.{List, sym, ap, subst}
use Rattle.std.specs.Prelude.{OnOk, option_map}
use Rattle.wasm_types.specs.settings.Settings.{Settings}
use Rattle.wasm_module_validator_section_order.specs.items.FullLaws.{unless_full_from}
use Rattle.wasm_module_validator_section_order.specs.declared.items.bodies.Body.{Body}
use Rattle.wasm_module_validator_payloads.specs.Progress.{Progress, Grows, IsAt}
use Rattle.wasm_module_validator_payloads.proofs.Counting.{on_ok}
use Rattle.wasm_module_validator_drivers.specs.Sharing.{Reached}
use Rattle.wasm_module_validator_drivers.proofs.Keeping.{settings_are, not_shared, own_progress, own_reached, full_next, told_next, payload_follows}
use Rattle.wasm_module_validator_drivers.proofs.sharing.SharedProgress.take_payload.Goals as goal

pub returns-clause-answer : goal.returns-clause-answer
returns-clause-answer c =
    let v = c.args.self.now in
    let i = c.self.inside in
    let o = option_map (λ p. p.value) i.shared in
    let own = own_progress v i.own i.last i.bodies o c.self.view_is c.requires.own in
    let y : Settings = record { features = c.features.result.0; limits = c.limits.result } in
    let by = settings_are i.own.kept.items.spaces.settings y.features y.limits c.features.ensures c.limits.ensures.value in
    unless_full_from _ _ c.take_payload.result _ _
    (λ e full. full_next v i.own own c.requires.own c.args.payload c.requires.whole c.read_by-anew.result y c.read_by-anew.ensures by e
    (λ z p at. full z p (subst (λ (bs : List Body). IsAt z i.own bs p) (sym c.new-bodies.ensures.items) at)))
    (λ told. told_next v i.own own c.requires.own c.args.payload c.requires.whole c.read_by-anew.result y c.read_by-anew.ensures by c.take_payload.result
    (λ z p f at has is. told z p f (subst (λ (bs : List Body). IsAt z i.own bs p) (sym c.new-bodies.ensures.items) at) has is)) c.take_payload.ensures.answer

pub returns-clause-added : goal.returns-clause-added
returns-clause-added c =
    let v = c.args.self.now in
    let i = c.self.inside in
    let o = option_map (λ p. p.value) i.shared in
    let y : Settings = record { features = c.features.result.0; limits = c.limits.result } in
    let by = settings_are i.own.kept.items.spaces.settings y.features y.limits c.features.ensures c.limits.ensures.value in
    payload_follows v i.own (own_progress v i.own i.last i.bodies o c.self.view_is c.requires.own) c.requires.own c.args.payload c.requires.whole
    c.read_by-anew.result y c.read_by-anew.ensures by c.take_payload.result c.take_payload.new.self c.take_payload.new.bodies.items _
    (own_reached c.take_payload.new.self o i.last i.bodies (not_shared v i.own i.last i.bodies o c.self.view_is c.requires.own))
    (on_ok c.take_payload.result _ _ (λ added z p q f at has is j. added z p q f (subst (λ (bs : List Body). IsAt z i.own bs p) (sym c.new-bodies.ensures.items) at) has is j) c.take_payload.ensures.added)

pub returns-clause-own : goal.returns-clause-own
returns-clause-own c =
    let v = c.args.self.now in
    let i = c.self.inside in
    let o = option_map (λ p. p.value) i.shared in
    ap (λ (r : Reached). r.code) (own_reached c.take_payload.new.self o i.last i.bodies (not_shared v i.own i.last i.bodies o c.self.view_is c.requires.own))

pub returns-clause-grown : goal.returns-clause-grown
returns-clause-grown c =
    let v = c.args.self.now in
    let i = c.self.inside in
    let o = option_map (λ p. p.value) i.shared in
    let left = own_reached c.take_payload.new.self o i.last i.bodies (not_shared v i.own i.last i.bodies o c.self.view_is c.requires.own) in
    subst (λ (r : Reached). OnOk c.take_payload.result (Grows v.progress.kept r.progress.kept)) (sym left)
    (subst (λ (p : Progress). OnOk c.take_payload.result (Grows p.kept c.take_payload.new.self.kept)) (sym (own_progress v i.own i.last i.bodies o c.self.view_is c.requires.own)) c.take_payload.ensures.grown)
