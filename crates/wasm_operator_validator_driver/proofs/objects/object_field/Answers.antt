use Rattle.std.proofs.Common.{refl}
use Rattle.wasm_operators_immediates.specs.Kinds as kind
use Rattle.wasm_operators_immediates.specs.Immediates.{Index, Count}
use Rattle.wasm_operators_enums.specs.Op as op
use Rattle.wasm_operators_enums.specs.declared.gc.GcOperator.TheVariants as gc
use Rattle.wasm_operators_frequent.proofs.ShortReading.{is_told_with_two, prefixed_of}
use Rattle.wasm_operators_frequent.proofs.Carried.{index_of}
use Rattle.wasm_operator_validator_driver.proofs.Carried.{count_of}
use Rattle.wasm_operator_validator_driver.proofs.objects.object_field.Goals as goal

pub returns-in-2-clause-told : goal.returns-in-2-clause-told
returns-in-2-clause-told g c =
    let o = op.Gc (gc.StructGet c.in-Some.ty c.in-Some-short_u32_at.second) in
    let first = prefixed_of c.args.bytes.now c.args.at 0xfb c.args.code 2 c.args.middle c.requires c.in-2.is refl o refl in
    is_told_with_two c.args.features.0 c.args.bytes.now c.args.at c.args.middle o first _ c.visit_struct_get.ensures refl refl
    (Index kind.Types c.in-Some.ty) (Index kind.Fields c.in-Some-short_u32_at.second) c.in-Some.next c.in-Some-short_u32_at.end refl
    (λ limits. index_of _ _ _ _ kind.Types c.in-Some.ty c.in-Some.ensures.found)
    (λ limits. index_of _ _ _ _ kind.Fields c.in-Some-short_u32_at.second c.in-Some-short_u32_at.ensures.found)

pub returns-in-3-clause-told : goal.returns-in-3-clause-told
returns-in-3-clause-told g c =
    let o = op.Gc (gc.StructGetS c.in-Some.ty c.in-Some-short_u32_at.second) in
    let first = prefixed_of c.args.bytes.now c.args.at 0xfb c.args.code 3 c.args.middle c.requires c.in-3.is refl o refl in
    is_told_with_two c.args.features.0 c.args.bytes.now c.args.at c.args.middle o first _ c.visit_struct_get_s.ensures refl refl
    (Index kind.Types c.in-Some.ty) (Index kind.Fields c.in-Some-short_u32_at.second) c.in-Some.next c.in-Some-short_u32_at.end refl
    (λ limits. index_of _ _ _ _ kind.Types c.in-Some.ty c.in-Some.ensures.found)
    (λ limits. index_of _ _ _ _ kind.Fields c.in-Some-short_u32_at.second c.in-Some-short_u32_at.ensures.found)

pub returns-in-4-clause-told : goal.returns-in-4-clause-told
returns-in-4-clause-told g c =
    let o = op.Gc (gc.StructGetU c.in-Some.ty c.in-Some-short_u32_at.second) in
    let first = prefixed_of c.args.bytes.now c.args.at 0xfb c.args.code 4 c.args.middle c.requires c.in-4.is refl o refl in
    is_told_with_two c.args.features.0 c.args.bytes.now c.args.at c.args.middle o first _ c.visit_struct_get_u.ensures refl refl
    (Index kind.Types c.in-Some.ty) (Index kind.Fields c.in-Some-short_u32_at.second) c.in-Some.next c.in-Some-short_u32_at.end refl
    (λ limits. index_of _ _ _ _ kind.Types c.in-Some.ty c.in-Some.ensures.found)
    (λ limits. index_of _ _ _ _ kind.Fields c.in-Some-short_u32_at.second c.in-Some-short_u32_at.ensures.found)

pub returns-in-5-clause-told : goal.returns-in-5-clause-told
returns-in-5-clause-told g c =
    let o = op.Gc (gc.StructSet c.in-Some.ty c.in-Some-short_u32_at.second) in
    let first = prefixed_of c.args.bytes.now c.args.at 0xfb c.args.code 5 c.args.middle c.requires c.in-5.is refl o refl in
    is_told_with_two c.args.features.0 c.args.bytes.now c.args.at c.args.middle o first _ c.visit_struct_set.ensures refl refl
    (Index kind.Types c.in-Some.ty) (Index kind.Fields c.in-Some-short_u32_at.second) c.in-Some.next c.in-Some-short_u32_at.end refl
    (λ limits. index_of _ _ _ _ kind.Types c.in-Some.ty c.in-Some.ensures.found)
    (λ limits. index_of _ _ _ _ kind.Fields c.in-Some-short_u32_at.second c.in-Some-short_u32_at.ensures.found)

pub returns-in-8-clause-told : goal.returns-in-8-clause-told
returns-in-8-clause-told g c =
    let o = op.Gc (gc.ArrayNewFixed c.in-Some.ty c.in-Some-short_u32_at.second) in
    let first = prefixed_of c.args.bytes.now c.args.at 0xfb c.args.code 8 c.args.middle c.requires c.in-8.is refl o refl in
    is_told_with_two c.args.features.0 c.args.bytes.now c.args.at c.args.middle o first _ c.visit_array_new_fixed.ensures refl refl
    (Index kind.Types c.in-Some.ty) (Count c.in-Some-short_u32_at.second) c.in-Some.next c.in-Some-short_u32_at.end refl
    (λ limits. index_of _ _ _ _ kind.Types c.in-Some.ty c.in-Some.ensures.found)
    (λ limits. count_of _ _ _ _ c.in-Some-short_u32_at.second c.in-Some-short_u32_at.ensures.found)

pub returns-in-17-clause-told : goal.returns-in-17-clause-told
returns-in-17-clause-told g c =
    let o = op.Gc (gc.ArrayCopy c.in-Some.ty c.in-Some-short_u32_at.second) in
    let first = prefixed_of c.args.bytes.now c.args.at 0xfb c.args.code 17 c.args.middle c.requires c.in-17.is refl o refl in
    is_told_with_two c.args.features.0 c.args.bytes.now c.args.at c.args.middle o first _ c.visit_array_copy.ensures refl refl
    (Index kind.Types c.in-Some.ty) (Index kind.Types c.in-Some-short_u32_at.second) c.in-Some.next c.in-Some-short_u32_at.end refl
    (λ limits. index_of _ _ _ _ kind.Types c.in-Some.ty c.in-Some.ensures.found)
    (λ limits. index_of _ _ _ _ kind.Types c.in-Some-short_u32_at.second c.in-Some-short_u32_at.ensures.found)
