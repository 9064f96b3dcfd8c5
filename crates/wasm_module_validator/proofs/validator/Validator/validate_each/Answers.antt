use Rattle.std.proofs.Common.{◌≡◌, ◌∙◌, ◌+◌, List, ℕ, length, sym, ap, subst, arith}
use Rattle.std.proofs.lemmas.List.{length-map}
use Rattle.wasm_module_validator.specs.declared.lists.Verdict.{Verdict}
use Rattle.wasm_module_validator.specs.declared.validator.Validator.{Validator}
use Rattle.wasm_module_validator.specs.Lists.{texts, AreVerdicts, KeepsAll, ShareIds, state_after}
use Rattle.wasm_module_validator.specs.States.{held_by}
use Rattle.wasm_module_validator.specs.laws.Lists.{Stands, stands_further, verdicts_are, ids_are, keeps_all, keeps_to_last, last_counts, goes_to_end}
use Rattle.wasm_module_validator.proofs.validator.Validator.validate_each.Goals as goal

pub returns-then-not-goes_on-clause-verdicts : goal.returns-then-not-goes_on-clause-verdicts
returns-then-not-goes_on-clause-verdicts c =
    let v : Validator = c.args.self.now in
    let xs : List (List ℕ) = texts c.args.inputs.now in
    subst (AreVerdicts v.settings v.id (held_by v) xs) (sym c.in-Ok-push.ensures.items)
    (verdicts_are v xs c.loop-i.i c.loop-i.self c.validate_next.new.self c.loop-i.verdicts.items c.input_at-bytes.result.now c.in-Ok.verdict c.loop-i.invariant c.input_at-bytes.ensures
    c.in-Ok.ensures.verdict c.in-Ok.ensures.groups c.in-Ok.ensures.others (sym c.goes_on-goes_on.ensures ∙ c.if-not-goes_on.true))

pub returns-then-not-goes_on-clause-ids : goal.returns-then-not-goes_on-clause-ids
returns-then-not-goes_on-clause-ids c =
    let v : Validator = c.args.self.now in
    let xs : List (List ℕ) = texts c.args.inputs.now in
    subst (ShareIds v.settings) (sym c.in-Ok-push.ensures.items)
    (ids_are v xs c.loop-i.i c.loop-i.self c.validate_next.new.self c.loop-i.verdicts.items c.input_at-bytes.result.now c.in-Ok.verdict c.loop-i.invariant c.input_at-bytes.ensures
    c.in-Ok.ensures.verdict c.in-Ok.ensures.groups c.in-Ok.ensures.others)

pub returns-then-not-goes_on-clause-state : goal.returns-then-not-goes_on-clause-state
returns-then-not-goes_on-clause-state c =
    c.in-Ok.ensures.state ∙ sym (ap state_after c.in-Ok-push.ensures.items ∙ last_counts c.loop-i.verdicts.items c.in-Ok.verdict)

pub loop-i-preserved : goal.loop-i-preserved
loop-i-preserved c =
    let v : Validator = c.args.self.now in
    let xs : List (List ℕ) = texts c.args.inputs.now in
    subst (λ (vs : List Verdict). Stands v xs (c.loop-i.i + 1) c.validate_next.new.self vs) (sym c.in-Ok-push.ensures.items)
    (stands_further v xs c.loop-i.i c.loop-i.self c.validate_next.new.self c.loop-i.verdicts.items c.input_at-bytes.result.now c.in-Ok.verdict c.loop-i.invariant c.input_at-bytes.ensures
    c.in-Ok.ensures.verdict c.in-Ok.ensures.groups c.in-Ok.ensures.others c.in-Ok.ensures.state (sym c.goes_on-goes_on.ensures ∙ c.if-not-goes_on.false))

pub returns-clause-verdicts : goal.returns-clause-verdicts
returns-clause-verdicts c =
    let v : Validator = c.args.self.now in
    let xs : List (List ℕ) = texts c.args.inputs.now in
    let all : length xs ≡ length c.args.inputs.now = length-map c.args.inputs.now (λ x. x.now) in
    goes_to_end v.settings v.id (held_by v) xs c.loop-i.i (held_by c.loop-i.self) c.loop-i.verdicts.items c.loop-i.invariant.verdicts (omega (arith, all, c.loop-i-test.false))

pub returns-clause-kept : goal.returns-clause-kept
returns-clause-kept c = keeps_all c.args.self.now (texts c.args.inputs.now) c.loop-i.i c.loop-i.self c.loop-i.verdicts.items c.loop-i.invariant

pub returns-then-not-goes_on-clause-kept : goal.returns-then-not-goes_on-clause-kept
returns-then-not-goes_on-clause-kept c =
    let v : Validator = c.args.self.now in
    let xs : List (List ℕ) = texts c.args.inputs.now in
    subst (λ (vs : List Verdict). KeepsAll v vs c.validate_next.new.self) (sym c.in-Ok-push.ensures.items)
    (keeps_to_last v xs c.loop-i.i c.loop-i.self c.validate_next.new.self c.loop-i.verdicts.items c.input_at-bytes.result.now c.in-Ok.verdict c.loop-i.invariant c.input_at-bytes.ensures
    c.in-Ok.ensures.verdict c.in-Ok.ensures.groups c.in-Ok.ensures.others c.in-Ok.ensures.state (sym c.goes_on-goes_on.ensures ∙ c.if-not-goes_on.true))
