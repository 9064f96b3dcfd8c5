use Rattle.std.proofs.Common.{◌∙◌, IfOk, sym, ap, subst}
use Rattle.std.specs.Prelude.{option_map}
use Rattle.wasm_module_validator_payloads.specs.declarations.Total.{TellsWithinTotal}
use Rattle.wasm_module_validator_section_order.specs.rules_in_order.Steps.{SoFar}
use Rattle.wasm_module_validator_payloads.specs.Progress.{Progress, IsAt}
use Rattle.wasm_module_validator_drivers.specs.reading.Reading.{HasGroupIn, IsReadAs}
use Rattle.wasm_module_validator_drivers.specs.Sharing.{Reached}
use Rattle.wasm_module_validator_drivers.proofs.Keeping.{not_shared, own_progress, own_reached}
use Rattle.wasm_module_validator_drivers.proofs.sharing.SharedProgress.read.Goals as goal

pub returns-clause-answer : goal.returns-clause-answer
returns-clause-answer c =
    let i = c.self.inside in
    let o = option_map (λ p. p.value) i.shared in
    let own = own_progress c.renew.new.self i.own i.last i.bodies o c.self.view_is (ap (λ (r : Reached). r.code) c.renew.ensures) in
    subst (λ (p : Progress). TellsWithinTotal p.kept.groups p.kept.items (HasGroupIn c.args.settings.now c.args.bytes.now) c.read_module.result
    ((q : SoFar) × IsReadAs c.args.settings.now c.args.bytes.now q))
    (sym own ∙ ap (λ (r : Reached). r.progress) c.renew.ensures) c.read_module.ensures.answer

pub returns-clause-stands : goal.returns-clause-stands
returns-clause-stands c =
    let i = c.self.inside in
    let o = option_map (λ p. p.value) i.shared in
    let none = not_shared c.renew.new.self i.own i.last i.bodies o c.self.view_is (ap (λ (r : Reached). r.code) c.renew.ensures) in
    let left = own_reached c.read_module.new.progress o i.last i.bodies none in
    subst (λ (r : Reached). IfOk c.read_module.result (λ bodies. (q : SoFar) → IsReadAs c.args.settings.now c.args.bytes.now q → IsAt c.args.settings.now r.progress bodies.items q)) (sym left)
    c.read_module.ensures.stands
