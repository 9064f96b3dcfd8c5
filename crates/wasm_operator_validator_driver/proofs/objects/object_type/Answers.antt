use Rattle.std.proofs.Common.{refl}
use Rattle.wasm_operators_immediates.specs.Kinds as kind
use Rattle.wasm_operators_immediates.specs.Immediates.{Index}
use Rattle.wasm_operators_enums.specs.Op as op
use Rattle.wasm_operators_enums.specs.declared.gc.GcOperator.TheVariants as gc
use Rattle.wasm_operators_frequent.proofs.ShortReading.{is_told_with, prefixed_of}
use Rattle.wasm_operators_frequent.proofs.Carried.{index_of}
use Rattle.wasm_operator_validator_driver.proofs.objects.object_type.Goals as goal

pub returns-in-0-clause-told : goal.returns-in-0-clause-told
returns-in-0-clause-told g c =
    let o = op.Gc (gc.StructNew c.in-Some.ty) in
    let first = prefixed_of c.args.bytes.now c.args.at 0xfb c.args.code 0 c.args.middle c.requires c.in-0.is refl o refl in
    is_told_with c.args.features.0 c.args.bytes.now c.args.at c.args.middle o first _ c.visit_struct_new.ensures refl refl
    (Index kind.Types c.in-Some.ty) c.in-Some.end refl (λ limits. index_of _ _ _ _ kind.Types c.in-Some.ty c.in-Some.ensures.found)

pub returns-in-1-clause-told : goal.returns-in-1-clause-told
returns-in-1-clause-told g c =
    let o = op.Gc (gc.StructNewDefault c.in-Some.ty) in
    let first = prefixed_of c.args.bytes.now c.args.at 0xfb c.args.code 1 c.args.middle c.requires c.in-1.is refl o refl in
    is_told_with c.args.features.0 c.args.bytes.now c.args.at c.args.middle o first _ c.visit_struct_new_default.ensures refl refl
    (Index kind.Types c.in-Some.ty) c.in-Some.end refl (λ limits. index_of _ _ _ _ kind.Types c.in-Some.ty c.in-Some.ensures.found)

pub returns-in-6-clause-told : goal.returns-in-6-clause-told
returns-in-6-clause-told g c =
    let o = op.Gc (gc.ArrayNew c.in-Some.ty) in
    let first = prefixed_of c.args.bytes.now c.args.at 0xfb c.args.code 6 c.args.middle c.requires c.in-6.is refl o refl in
    is_told_with c.args.features.0 c.args.bytes.now c.args.at c.args.middle o first _ c.visit_array_new.ensures refl refl
    (Index kind.Types c.in-Some.ty) c.in-Some.end refl (λ limits. index_of _ _ _ _ kind.Types c.in-Some.ty c.in-Some.ensures.found)

pub returns-in-7-clause-told : goal.returns-in-7-clause-told
returns-in-7-clause-told g c =
    let o = op.Gc (gc.ArrayNewDefault c.in-Some.ty) in
    let first = prefixed_of c.args.bytes.now c.args.at 0xfb c.args.code 7 c.args.middle c.requires c.in-7.is refl o refl in
    is_told_with c.args.features.0 c.args.bytes.now c.args.at c.args.middle o first _ c.visit_array_new_default.ensures refl refl
    (Index kind.Types c.in-Some.ty) c.in-Some.end refl (λ limits. index_of _ _ _ _ kind.Types c.in-Some.ty c.in-Some.ensures.found)

pub returns-in-11-clause-told : goal.returns-in-11-clause-told
returns-in-11-clause-told g c =
    let o = op.Gc (gc.ArrayGet c.in-Some.ty) in
    let first = prefixed_of c.args.bytes.now c.args.at 0xfb c.args.code 11 c.args.middle c.requires c.in-11.is refl o refl in
    is_told_with c.args.features.0 c.args.bytes.now c.args.at c.args.middle o first _ c.visit_array_get.ensures refl refl
    (Index kind.Types c.in-Some.ty) c.in-Some.end refl (λ limits. index_of _ _ _ _ kind.Types c.in-Some.ty c.in-Some.ensures.found)

pub returns-in-12-clause-told : goal.returns-in-12-clause-told
returns-in-12-clause-told g c =
    let o = op.Gc (gc.ArrayGetS c.in-Some.ty) in
    let first = prefixed_of c.args.bytes.now c.args.at 0xfb c.args.code 12 c.args.middle c.requires c.in-12.is refl o refl in
    is_told_with c.args.features.0 c.args.bytes.now c.args.at c.args.middle o first _ c.visit_array_get_s.ensures refl refl
    (Index kind.Types c.in-Some.ty) c.in-Some.end refl (λ limits. index_of _ _ _ _ kind.Types c.in-Some.ty c.in-Some.ensures.found)

pub returns-in-13-clause-told : goal.returns-in-13-clause-told
returns-in-13-clause-told g c =
    let o = op.Gc (gc.ArrayGetU c.in-Some.ty) in
    let first = prefixed_of c.args.bytes.now c.args.at 0xfb c.args.code 13 c.args.middle c.requires c.in-13.is refl o refl in
    is_told_with c.args.features.0 c.args.bytes.now c.args.at c.args.middle o first _ c.visit_array_get_u.ensures refl refl
    (Index kind.Types c.in-Some.ty) c.in-Some.end refl (λ limits. index_of _ _ _ _ kind.Types c.in-Some.ty c.in-Some.ensures.found)

pub returns-in-14-clause-told : goal.returns-in-14-clause-told
returns-in-14-clause-told g c =
    let o = op.Gc (gc.ArraySet c.in-Some.ty) in
    let first = prefixed_of c.args.bytes.now c.args.at 0xfb c.args.code 14 c.args.middle c.requires c.in-14.is refl o refl in
    is_told_with c.args.features.0 c.args.bytes.now c.args.at c.args.middle o first _ c.visit_array_set.ensures refl refl
    (Index kind.Types c.in-Some.ty) c.in-Some.end refl (λ limits. index_of _ _ _ _ kind.Types c.in-Some.ty c.in-Some.ensures.found)

pub returns-in-16-clause-told : goal.returns-in-16-clause-told
returns-in-16-clause-told g c =
    let o = op.Gc (gc.ArrayFill c.in-Some.ty) in
    let first = prefixed_of c.args.bytes.now c.args.at 0xfb c.args.code 16 c.args.middle c.requires c.in-16.is refl o refl in
    is_told_with c.args.features.0 c.args.bytes.now c.args.at c.args.middle o first _ c.visit_array_fill.ensures refl refl
    (Index kind.Types c.in-Some.ty) c.in-Some.end refl (λ limits. index_of _ _ _ _ kind.Types c.in-Some.ty c.in-Some.ensures.found)
