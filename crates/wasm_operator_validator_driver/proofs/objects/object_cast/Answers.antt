use Rattle.std.proofs.Common.{refl}
use Rattle.wasm_operators_immediates.specs.Immediates.{Heap}
use Rattle.wasm_operators_enums.specs.Op as op
use Rattle.wasm_operators_enums.specs.declared.gc.GcOperator.TheVariants as gc
use Rattle.wasm_operators_frequent.proofs.ShortReading.{is_told_with, prefixed_of}
use Rattle.wasm_operator_validator_driver.proofs.Carried.{heap_of}
use Rattle.wasm_operator_validator_driver.proofs.objects.object_cast.Goals as goal

pub returns-in-20-clause-told : goal.returns-in-20-clause-told
returns-in-20-clause-told g c =
    let o = op.Gc (gc.RefTestNonNull c.in-Some.hty) in
    let first = prefixed_of c.args.bytes.now c.args.at 0xfb c.args.code 20 c.args.middle c.requires c.in-20.is refl o refl in
    is_told_with c.args.features.0 c.args.bytes.now c.args.at c.args.middle o first _ c.visit_ref_test_non_null.ensures refl refl
    (Heap c.in-Some.hty) c.in-Some.end refl (λ limits. heap_of _ _ _ _ c.in-Some.hty c.in-Some.ensures)

pub returns-in-21-clause-told : goal.returns-in-21-clause-told
returns-in-21-clause-told g c =
    let o = op.Gc (gc.RefTestNullable c.in-Some.hty) in
    let first = prefixed_of c.args.bytes.now c.args.at 0xfb c.args.code 21 c.args.middle c.requires c.in-21.is refl o refl in
    is_told_with c.args.features.0 c.args.bytes.now c.args.at c.args.middle o first _ c.visit_ref_test_nullable.ensures refl refl
    (Heap c.in-Some.hty) c.in-Some.end refl (λ limits. heap_of _ _ _ _ c.in-Some.hty c.in-Some.ensures)

pub returns-in-22-clause-told : goal.returns-in-22-clause-told
returns-in-22-clause-told g c =
    let o = op.Gc (gc.RefCastNonNull c.in-Some.hty) in
    let first = prefixed_of c.args.bytes.now c.args.at 0xfb c.args.code 22 c.args.middle c.requires c.in-22.is refl o refl in
    is_told_with c.args.features.0 c.args.bytes.now c.args.at c.args.middle o first _ c.visit_ref_cast_non_null.ensures refl refl
    (Heap c.in-Some.hty) c.in-Some.end refl (λ limits. heap_of _ _ _ _ c.in-Some.hty c.in-Some.ensures)

pub returns-in-23-clause-told : goal.returns-in-23-clause-told
returns-in-23-clause-told g c =
    let o = op.Gc (gc.RefCastNullable c.in-Some.hty) in
    let first = prefixed_of c.args.bytes.now c.args.at 0xfb c.args.code 23 c.args.middle c.requires c.in-23.is refl o refl in
    is_told_with c.args.features.0 c.args.bytes.now c.args.at c.args.middle o first _ c.visit_ref_cast_nullable.ensures refl refl
    (Heap c.in-Some.hty) c.in-Some.end refl (λ limits. heap_of _ _ _ _ c.in-Some.hty c.in-Some.ensures)
