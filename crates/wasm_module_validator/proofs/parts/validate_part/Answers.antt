use Rattle.std.proofs.Common.{ap, sym, subst, List, ℕ, Err, OnOk, IfErr}
use Rattle.wasm_types.specs.decoding.Denials.{Denies}
use Rattle.wasm_types.specs.decoding.DenialLaws.{denies_from}
use Rattle.wasm_types.specs.settings.Limits.{IsWithinCeilings}
use Rattle.wasm_types.specs.settings.Settings.{Settings}
use Rattle.wasm_module_validator_rules.specs.Accepts.{AcceptsUnder}
use Rattle.wasm_module_validator_section_order.specs.rules_in_order.Steps.{SoFar}
use Rattle.wasm_module_validator_drivers.specs.Sharing.{Reached}
use Rattle.wasm_module_validator_drivers.specs.reading.Reading.{HasGroupIn, IsReadAs}
use Rattle.wasm_module_validator.specs.Parts.{AcceptsPart}
use Rattle.wasm_module_validator.specs.laws.Parts.{part_told}
use Rattle.wasm_module_validator.specs.laws.Verdict.{accepted_is_read, alone_told}
use Rattle.wasm_module_validator.proofs.parts.validate_part.Goals as goal

pub returns-in-Err-clause-err : goal.returns-in-Err-clause-err
returns-in-Err-clause-err c =
    let z : Settings = c.new-settings.result in
    let bytes : List ℕ = c.args.bytes.now in
    let within = subst (λ (y : Settings). IsWithinCeilings y.limits) (sym c.new-settings.ensures) c.requires.within in
    let none = ap (λ (r : Reached). r.progress.kept.groups) c.new-reached.ensures in
    let alone = alone_told {X = Unit {0}} z c.new-reached.result.progress.kept none within (HasGroupIn z bytes) (Err c.in-Err.error)
    ((q : SoFar) × IsReadAs z bytes q) c.in-Err.ensures.answer in
    subst (λ (y : Settings). Denies c.in-Err.error.kind (AcceptsUnder y bytes)) c.new-settings.ensures
    (denies_from c.in-Err.error.kind ((q : SoFar) × IsReadAs z bytes q) (AcceptsUnder z bytes)
    (λ a. let h = accepted_is_read z bytes a in (h.0, h.1)) alone)

pub returns-clause-ok : goal.returns-clause-ok
returns-clause-ok c =
    let z : Settings = c.new-settings.result in
    subst (λ (y : Settings). OnOk c.judge_part.result (AcceptsPart y c.args.part c.args.parts c.args.bytes.now)) c.new-settings.ensures
    (part_told z c.args.bytes.now c.args.part c.args.parts c.read.new.self.progress c.in-Ok.bodies.items c.in-Ok.ensures.answer c.in-Ok.ensures.stands
    c.judge_part.result (c.judge_part.ensures z)).0

pub returns-clause-err : goal.returns-clause-err
returns-clause-err c =
    let z : Settings = c.new-settings.result in
    subst (λ (y : Settings). IfErr c.judge_part.result (λ e. Denies e.kind (AcceptsUnder y c.args.bytes.now))) c.new-settings.ensures
    (part_told z c.args.bytes.now c.args.part c.args.parts c.read.new.self.progress c.in-Ok.bodies.items c.in-Ok.ensures.answer c.in-Ok.ensures.stands
    c.judge_part.result (c.judge_part.ensures z)).1
