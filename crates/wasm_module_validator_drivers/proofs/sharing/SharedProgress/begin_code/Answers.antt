use Rattle.std.proofs.Common.{◌∙◌, Ok, Err, ap, sym, subst}
use Rattle.std.specs.Prelude.{option_map, Option}
use Rattle.wasm_module_validator_payloads.specs.Progress.{Progress, Kept}
use Rattle.wasm_module_validator_drivers.specs.Sharing.{IsNext}
use Rattle.wasm_module_validator_drivers.proofs.Keeping.{not_shared, own_progress, code_told, code_begun}
use Rattle.wasm_module_validator_drivers.proofs.sharing.SharedProgress.begin_code.Goals as goal

pub returns-in-Err-clause-answer : goal.returns-in-Err-clause-answer
returns-in-Err-clause-answer c =
    let v = c.args.self.now in
    let i = c.self.inside in
    let o = option_map (λ p. p.value) i.shared in
    code_told v i.own (own_progress v i.own i.last i.bodies o c.self.view_is c.requires.own) c.requires.own {X = Unit {0}} (Err c.in-Err.error) c.in-Err.ensures.answer

pub returns-clause-answer : goal.returns-clause-answer
returns-clause-answer c =
    let v = c.args.self.now in
    let i = c.self.inside in
    let o = option_map (λ p. p.value) i.shared in
    code_told v i.own (own_progress v i.own i.last i.bodies o c.self.view_is c.requires.own) c.requires.own {X = Unit {0}} (Ok tt) c.in-Ok.ensures.answer

pub returns-clause-added : goal.returns-clause-added
returns-clause-added c =
    let v = c.args.self.now in
    let i = c.self.inside in
    let o = option_map (λ p. p.value) i.shared in
    code_begun v i.own (own_progress v i.own i.last i.bodies o c.self.view_is c.requires.own) c.requires.own c.take_code_start.new.self c.in_ok-new.field-0.value
    (c.in_ok-new.ensures.ok ∙ c.in_ok-module.ensures.closed) c.in-Ok.ensures.added

pub returns-clause-kept : goal.returns-clause-kept
returns-clause-kept c =
    let v = c.args.self.now in
    let i = c.self.inside in
    let o = option_map (λ p. p.value) i.shared in
    (c.in_ok-new.ensures.ok ∙ c.in_ok-module.ensures.closed) ∙ (c.take_code_start.ensures.kept ∙ sym (ap (λ (p : Progress). p.kept) (own_progress v i.own i.last i.bodies o c.self.view_is c.requires.own)))

pub invariant_of-self-in_err-new : goal.invariant_of-self-in_err-new
invariant_of-self-in_err-new c =
    let v = c.args.self.now in
    let i = c.self.inside in
    let o = option_map (λ p. p.value) i.shared in
    let none = not_shared v i.own i.last i.bodies o c.self.view_is c.requires.own in
    subst (λ (s : Option Kept). IsNext c.close.new.self s) (sym none) tt
