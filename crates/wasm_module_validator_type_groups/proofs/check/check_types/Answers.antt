use Rattle.std.proofs.Common.{◌-◌, rules, arith}
use Rattle.wasm_types.specs.decoding.DenialLaws.{denies_from}
use Rattle.wasm_types.specs.decoding.Denials.{Denies}
use Rattle.wasm_module_validator_type_groups.specs.ValidTypes.{AreTypesValid}
use Rattle.wasm_module_validator_type_groups.proofs.Steps.{next_id}
use Rattle.wasm_module_validator_type_groups.proofs.check.check_types.Goals as goal

pub returns-in_err-check_type-clause-answer : goal.returns-in_err-check_type-clause-answer
returns-in_err-check_type-clause-answer c =
    let step = next_id c.args.types.now.groups c.args.features.0 c.args.most c.args.ids.now.end.0 c.loop-number.number c.new.result (omega arith) c.new.ensures in
    let d : Denies c.in_err-check_type.field-0.0.kind (AreTypesValid c.args.types.now.groups c.args.features.0 c.args.most c.args.ids.now.start.0 (c.args.ids.now.end.0 - c.args.ids.now.start.0)) =
    denies_from c.in_err-check_type.field-0.0.kind _
    (AreTypesValid c.args.types.now.groups c.args.features.0 c.args.most c.args.ids.now.start.0 (c.args.ids.now.end.0 - c.args.ids.now.start.0))
    (λ h. (step.0 (c.loop-number.invariant.0 h)).0) c.in_err-check_type.ensures.answer in
    search rules

pub loop-number-preserved : goal.loop-number-preserved
loop-number-preserved c =
    let step = next_id c.args.types.now.groups c.args.features.0 c.args.most c.args.ids.now.end.0 c.loop-number.number c.new.result (omega arith) c.new.ensures in
    (λ h. (step.0 (c.loop-number.invariant.0 h)).1, λ h. c.loop-number.invariant.1 (step.1 (c.in_ok-check_type.ensures.answer, h)))
