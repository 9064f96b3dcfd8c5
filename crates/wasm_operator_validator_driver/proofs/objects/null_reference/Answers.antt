use Rattle.std.proofs.Common.{refl}
use Rattle.wasm_operators_immediates.specs.Immediates.{Heap}
use Rattle.wasm_operators_enums.specs.Op as op
use Rattle.wasm_operators_enums.specs.declared.bulk.BulkOperator.TheVariants as bulk
use Rattle.wasm_operators_frequent.proofs.ShortReading.{told_with}
use Rattle.wasm_operator_validator_driver.proofs.Carried.{heap_of}
use Rattle.wasm_operator_validator_driver.proofs.objects.null_reference.Goals as goal

pub returns-in-208-clause-told : goal.returns-in-208-clause-told
returns-in-208-clause-told g c = told_with c.args.features.0 c.args.bytes.now c.args.at c.args.code 208 c.requires c.in-208.is
    (op.Bulk (bulk.RefNull c.in-Some.hty)) refl refl _ c.visit_ref_null.ensures refl refl (Heap c.in-Some.hty) c.in-Some.end refl
    (λ limits. heap_of _ _ _ _ c.in-Some.hty c.in-Some.ensures)
