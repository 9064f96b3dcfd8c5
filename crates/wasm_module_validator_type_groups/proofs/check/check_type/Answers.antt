use Rattle.std.proofs.Common.{rules}
use Rattle.std.specs.Prelude.{Some}
use Rattle.wasm_types.specs.decoding.DenialLaws.{denies_from}
use Rattle.wasm_types.specs.decoding.Denials.{Denies}
use Rattle.wasm_module_validator_type_groups.specs.ValidTypes.{IsTypeValid}
use Rattle.wasm_module_validator_type_groups.proofs.Parts.{tells_from, upper_part, joins_part, all_parts}
use Rattle.wasm_module_validator_type_groups.proofs.check.check_type.Goals as goal

pub returns-in_err-check_below-clause-answer : goal.returns-in_err-check_below-clause-answer
returns-in_err-check_below-clause-answer c =
    let d : Denies c.in_err-check_below.field-0.0.kind (IsTypeValid c.args.types.now.groups c.args.features.0 c.args.most c.args.id) =
    denies_from c.in_err-check_below.field-0.0.kind _ (IsTypeValid c.args.types.now.groups c.args.features.0 c.args.most c.args.id)
    (upper_part c.args.types.now.groups c.args.features.0 c.args.most c.args.id (Some c.in-Some.above) c.in-Some.ensures.declared) c.in_err-check_below.ensures.above in
    search rules

pub returns-clause-answer : goal.returns-clause-answer
returns-clause-answer c =
    tells_from c.check_joins-2.result _ (IsTypeValid c.args.types.now.groups c.args.features.0 c.args.most c.args.id)
    (all_parts c.args.types.now.groups c.args.features.0 c.args.most c.args.id (Some c.in-Some.above) c.in-Some.ensures.declared c.stored_type-ty.result.now c.stored_type-ty.ensures
    c.in_ok-check_subtyping.ensures.answer c.in_ok-check_composite_type.ensures.answer c.in_ok-check_below.ensures.above)
    (joins_part c.args.types.now.groups c.args.features.0 c.args.most c.args.id (Some c.in-Some.above) c.in-Some.ensures.declared c.stored_type-ty.result.now c.stored_type-ty.ensures)
    c.check_joins-2.ensures.answer
