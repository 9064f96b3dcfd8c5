use Rattle.std.proofs.Common.{refl}
use Rattle.wasm_operators_immediates.specs.Kinds as kind
use Rattle.wasm_operators_immediates.specs.Immediates.{Index, Label}
use Rattle.wasm_operators_enums.specs.Op as op
use Rattle.wasm_operators_enums.specs.declared.control.ControlOperator.TheVariants as control
use Rattle.wasm_operators_frequent.proofs.ShortReading.{told_with}
use Rattle.wasm_operators_frequent.proofs.Carried.{index_of, label_of}
use Rattle.wasm_operator_validator_driver.proofs.objects.branch_reference.Goals as goal

pub returns-in-20-clause-told : goal.returns-in-20-clause-told
returns-in-20-clause-told g c = told_with c.args.features.0 c.args.bytes.now c.args.at c.args.code 20 c.requires c.in-20.is
    (op.Control (control.CallRef c.in-Some.index)) refl refl _ c.visit_call_ref.ensures refl refl (Index kind.Types c.in-Some.index) c.in-Some.end refl
    (λ limits. index_of _ _ _ _ kind.Types c.in-Some.index c.in-Some.ensures.found)

pub returns-in-21-clause-told : goal.returns-in-21-clause-told
returns-in-21-clause-told g c = told_with c.args.features.0 c.args.bytes.now c.args.at c.args.code 21 c.requires c.in-21.is
    (op.Control (control.ReturnCallRef c.in-Some.index)) refl refl _ c.visit_return_call_ref.ensures refl refl (Index kind.Types c.in-Some.index) c.in-Some.end refl
    (λ limits. index_of _ _ _ _ kind.Types c.in-Some.index c.in-Some.ensures.found)

pub returns-in-213-clause-told : goal.returns-in-213-clause-told
returns-in-213-clause-told g c = told_with c.args.features.0 c.args.bytes.now c.args.at c.args.code 213 c.requires c.in-213.is
    (op.Control (control.BrOnNull c.in-Some.index)) refl refl _ c.visit_br_on_null.ensures refl refl (Label c.in-Some.index) c.in-Some.end refl
    (λ limits. label_of _ _ _ _ c.in-Some.index c.in-Some.ensures.found)

pub returns-in-214-clause-told : goal.returns-in-214-clause-told
returns-in-214-clause-told g c = told_with c.args.features.0 c.args.bytes.now c.args.at c.args.code 214 c.requires c.in-214.is
    (op.Control (control.BrOnNonNull c.in-Some.index)) refl refl _ c.visit_br_on_non_null.ensures refl refl (Label c.in-Some.index) c.in-Some.end refl
    (λ limits. label_of _ _ _ _ c.in-Some.index c.in-Some.ensures.found)
