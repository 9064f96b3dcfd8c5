use Rattle.std.proofs.Common.{refl}
use Rattle.wasm_operators_enums.specs.Op as op
use Rattle.wasm_operators_enums.specs.declared.control.ControlOperator.TheVariants as control
use Rattle.wasm_operators_frequent.proofs.ShortReading.{told_alone}
use Rattle.wasm_operator_validator_driver.proofs.objects.control_reference.Goals as goal

pub returns-in-212-clause-told : goal.returns-in-212-clause-told
returns-in-212-clause-told g c = told_alone c.args.features.0 c.args.bytes.now c.args.at c.args.code 212 c.requires c.in-212.is
    (op.Control control.RefAsNonNull) refl refl _ c.visit_ref_as_non_null.ensures refl refl refl
