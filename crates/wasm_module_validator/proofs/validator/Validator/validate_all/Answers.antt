use Rattle.std.proofs.Common.{◌≡◌, List, length, refl, sym, subst, Err, inr}
use Rattle.wasm_types.specs.decoding.Denials.{Denies, Tells}
use Rattle.wasm_types.specs.decoding.declared.error.ErrorKind.{ErrorKind}
use Rattle.wasm_types.specs.decoding.DenialLaws.{denies_from}
use Rattle.wasm_types.specs.settings.Limits.{IsWithinCeilings}
use Rattle.wasm_types.specs.settings.Settings.{Settings}
use Rattle.wasm_module_validator_section_order.specs.items.FullLaws.{either_from}
use Rattle.wasm_module_validator_section_order.specs.declared.items.bodies.Body.{Body}
use Rattle.wasm_module_validator_rules.specs.Accepts.{AcceptsUnder}
use Rattle.wasm_module_validator_section_order.specs.rules_in_order.Steps.{SoFar}
use Rattle.wasm_module_validator_drivers.specs.payloads.Progress.{Kept, Progress, IsAt}
use Rattle.wasm_module_validator_drivers.specs.judging.Bodies.{AreBodies}
use Rattle.wasm_module_validator_drivers.specs.Sharing.{Reached}
use Rattle.wasm_module_validator_drivers.specs.reading.Reading.{IsReadAs}
use Rattle.wasm_module_validator.specs.Accepts.{IsShown}
use Rattle.wasm_module_validator.specs.Lists.{AreToldUnder, TakesNoMore}
use Rattle.wasm_module_validator.specs.States.{IsLeft, held_by}
use Rattle.wasm_module_validator.specs.laws.Verdict.{accepted_is_read, alone_told, failed_not_ended, left_behind, left_unread, no_more_read, tells_accepted, stands_for_module}
use Rattle.wasm_module_validator.proofs.Validity.{accepted_sound}
use Rattle.wasm_module_validator.proofs.validator.Validator.validate_all.Goals as goal

pub returns-in-Err-clause-verdict : goal.returns-in-Err-clause-verdict
returns-in-Err-clause-verdict c =
    let z : Settings = c.args.self.now.settings in
    either_from (λ past. past) (denies_from c.in-Err.error.kind ((q : SoFar) × IsReadAs z c.args.bytes.now q) (AcceptsUnder z c.args.bytes.now)
    (λ a. let h = accepted_is_read z c.args.bytes.now a in (h.0, h.1))) c.in-Err.ensures.answer

pub returns-in-Err-judge-clause-verdict : goal.returns-in-Err-judge-clause-verdict
returns-in-Err-judge-clause-verdict c =
    let z : Settings = c.args.self.now.settings in
    let r : Progress = c.read.new.self.progress in
    inr (subst (λ answer. Tells answer (AcceptsUnder z c.args.bytes.now)) c.in-Err-judge.is
    (tells_accepted z c.args.bytes.now r c.in-Ok.bodies.items c.in-Ok.ensures.answer c.in-Ok.ensures.stands c.judge.result
    (subst (λ (xs : List Body). (q : SoFar) → IsAt z r xs q → length q.bodies ≡ length q.tree.functions → Tells c.judge.result (AreBodies z q)) c.as_slice.ensures.value (c.judge.ensures z))))

pub returns-in-Ok-finish-clause-verdict : goal.returns-in-Ok-finish-clause-verdict
returns-in-Ok-finish-clause-verdict c =
    let z : Settings = c.args.self.now.settings in
    let r : Progress = c.read.new.self.progress in
    subst (λ answer. Tells answer (AcceptsUnder z c.args.bytes.now)) c.in-Ok-judge.is
    (tells_accepted z c.args.bytes.now r c.in-Ok.bodies.items c.in-Ok.ensures.answer c.in-Ok.ensures.stands c.judge.result
    (subst (λ (xs : List Body). (q : SoFar) → IsAt z r xs q → length q.bodies ≡ length q.tree.functions → Tells c.judge.result (AreBodies z q)) c.as_slice.ensures.value (c.judge.ensures z)))

pub returns-in-Ok-finish-clause-shown : goal.returns-in-Ok-finish-clause-shown
returns-in-Ok-finish-clause-shown c =
    let z : Settings = c.args.self.now.settings in
    let r : Progress = c.read.new.self.progress in
    let a : AcceptsUnder z c.args.bytes.now = returns-in-Ok-finish-clause-verdict c in
    subst (λ (k : Kept). IsShown z c.args.bytes.now (record { id = c.args.self.now.id; kept = k })) (sym c.in-Ok-finish.ensures.finished)
    (a.0, a.1, stands_for_module z c.args.bytes.now r c.in-Ok.bodies.items c.in-Ok.ensures.answer c.in-Ok.ensures.stands a.0 a.1)

pub returns-in-Ok-finish-clause-sound : goal.returns-in-Ok-finish-clause-sound
returns-in-Ok-finish-clause-sound c = accepted_sound c.args.self.now.settings c.args.bytes.now (returns-in-Ok-finish-clause-verdict c)

pub returns-in-Err-clause-alone : goal.returns-in-Err-clause-alone
returns-in-Err-clause-alone c = λ none.
    alone_told {X = Unit {0}} c.args.self.now.settings c.args.self.now.reached.progress.kept none (subst IsWithinCeilings c.limits-limits.ensures.value c.limits-limits.ensures.within)
    _ (Err c.in-Err.error) (AcceptsUnder c.args.self.now.settings c.args.bytes.now) (returns-in-Err-clause-verdict c)

pub returns-in-Err-judge-clause-alone : goal.returns-in-Err-judge-clause-alone
returns-in-Err-judge-clause-alone c = λ none.
    alone_told {X = Unit {0}} c.args.self.now.settings c.args.self.now.reached.progress.kept none (subst IsWithinCeilings c.limits-limits.ensures.value c.limits-limits.ensures.within)
    _ (Err c.in-Err-judge.error) (AcceptsUnder c.args.self.now.settings c.args.bytes.now) (returns-in-Err-judge-clause-verdict c)

pub returns-in-Ok-finish-clause-alone : goal.returns-in-Ok-finish-clause-alone
returns-in-Ok-finish-clause-alone c = λ none. returns-in-Ok-finish-clause-verdict c

pub returns-in-Err-clause-state : goal.returns-in-Err-clause-state
returns-in-Err-clause-state c =
    left_unread (Unit {0}) (held_by c.args.self.now) c.args.self.now.settings c.args.bytes.now c.in-Err.error _ refl c.in-Err.ensures.answer

pub returns-in-Err-judge-clause-state : goal.returns-in-Err-judge-clause-state
returns-in-Err-judge-clause-state c =
    let z : Settings = c.args.self.now.settings in
    let r : Progress = c.read.new.self.progress in
    let told : Tells c.judge.result (AcceptsUnder z c.args.bytes.now) = tells_accepted z c.args.bytes.now r c.in-Ok.bodies.items c.in-Ok.ensures.answer c.in-Ok.ensures.stands c.judge.result
    (subst (λ (xs : List Body). (q : SoFar) → IsAt z r xs q → length q.bodies ≡ length q.tree.functions → Tells c.judge.result (AreBodies z q)) c.as_slice.ensures.value (c.judge.ensures z)) in
    left_behind (Unit {0}) (held_by c.args.self.now) z c.args.bytes.now c.in-Err-judge.error c.state_after-self.result
    (subst (λ k. IsLeft k c.state_after-self.result) c.kind.ensures c.state_after-self.ensures) c.in-Ok.ensures.answer
    (subst (λ answer. Tells answer (AcceptsUnder z c.args.bytes.now)) c.in-Err-judge.is told)

pub returns-in-Ok-finish-clause-told : goal.returns-in-Ok-finish-clause-told
returns-in-Ok-finish-clause-told c =
    let k : Kept = c.in-Ok-finish.«module».value in
    subst (λ (z : Settings). AreToldUnder z k.groups k.groups) (returns-in-Ok-finish-clause-shown c).2.settings c.tell_ids.ensures

pub returns-in-Err-clause-few : goal.returns-in-Err-clause-few
returns-in-Err-clause-few c = λ e. absurd (failed_not_ended e)

pub returns-in-Err-judge-clause-few : goal.returns-in-Err-judge-clause-few
returns-in-Err-judge-clause-few c = λ e.
    no_more_read c.args.self.now.settings c.args.bytes.now (held_by c.args.self.now) c.read.new.self.progress c.in-Ok.bodies.items c.in-Ok.ensures.stands c.in-Ok.ensures.grown

pub returns-in-Ok-finish-clause-few : goal.returns-in-Ok-finish-clause-few
returns-in-Ok-finish-clause-few c = λ e.
    subst (λ (r : Reached). TakesNoMore c.args.self.now.settings (held_by c.args.self.now) c.args.bytes.now r.progress.kept.groups) (sym c.in-Ok-finish.ensures.next)
    (no_more_read c.args.self.now.settings c.args.bytes.now (held_by c.args.self.now) c.read.new.self.progress c.in-Ok.bodies.items c.in-Ok.ensures.stands c.in-Ok.ensures.grown)
