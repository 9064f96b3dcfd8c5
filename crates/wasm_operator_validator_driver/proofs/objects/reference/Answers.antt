use Rattle.std.proofs.Common.{refl}
use Rattle.wasm_operators_enums.specs.Op as op
use Rattle.wasm_operators_enums.specs.declared.bulk.BulkOperator.TheVariants as bulk
use Rattle.wasm_operators_frequent.proofs.ShortReading.{told_alone}
use Rattle.wasm_operator_validator_driver.proofs.objects.reference.Goals as goal

pub returns-in-209-clause-told : goal.returns-in-209-clause-told
returns-in-209-clause-told g c = told_alone c.args.features.0 c.args.bytes.now c.args.at c.args.code 209 c.requires c.in-209.is
    (op.Bulk bulk.RefIsNull) refl refl _ c.visit_ref_is_null.ensures refl refl refl
