use Rattle.std.proofs.Common.{refl}
use Rattle.wasm_operators_enums.specs.Op as op
use Rattle.wasm_operators_enums.specs.declared.gc.GcOperator.TheVariants as gc
use Rattle.wasm_operators_frequent.proofs.ShortReading.{told_alone}
use Rattle.wasm_operator_validator_driver.proofs.objects.equal_references.Goals as goal

pub returns-in-211-clause-told : goal.returns-in-211-clause-told
returns-in-211-clause-told g c = told_alone c.args.features.0 c.args.bytes.now c.args.at c.args.code 211 c.requires c.in-211.is
    (op.Gc gc.RefEq) refl refl _ c.visit_ref_eq.ensures refl refl refl
