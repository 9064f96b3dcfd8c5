use Rattle.std.proofs.Common.{refl}
use Rattle.wasm_operators_enums.specs.Op as op
use Rattle.wasm_operators_enums.specs.declared.gc.GcOperator.TheVariants as gc
use Rattle.wasm_operators_frequent.proofs.ShortReading.{is_told, prefixed_of}
use Rattle.wasm_operator_validator_driver.proofs.objects.object_alone.Goals as goal

pub returns-in-15-clause-told : goal.returns-in-15-clause-told
returns-in-15-clause-told g c =
    let o = op.Gc gc.ArrayLen in
    let first = prefixed_of c.args.bytes.now c.args.at 0xfb c.args.code 15 c.args.end c.requires c.in-15.is refl o refl in
    is_told c.args.features.0 c.args.bytes.now c.args.at c.args.end o first _ c.visit_array_len.ensures refl refl refl

pub returns-in-26-clause-told : goal.returns-in-26-clause-told
returns-in-26-clause-told g c =
    let o = op.Gc gc.AnyConvertExtern in
    let first = prefixed_of c.args.bytes.now c.args.at 0xfb c.args.code 26 c.args.end c.requires c.in-26.is refl o refl in
    is_told c.args.features.0 c.args.bytes.now c.args.at c.args.end o first _ c.visit_any_convert_extern.ensures refl refl refl

pub returns-in-27-clause-told : goal.returns-in-27-clause-told
returns-in-27-clause-told g c =
    let o = op.Gc gc.ExternConvertAny in
    let first = prefixed_of c.args.bytes.now c.args.at 0xfb c.args.code 27 c.args.end c.requires c.in-27.is refl o refl in
    is_told c.args.features.0 c.args.bytes.now c.args.at c.args.end o first _ c.visit_extern_convert_any.ensures refl refl refl

pub returns-in-28-clause-told : goal.returns-in-28-clause-told
returns-in-28-clause-told g c =
    let o = op.Gc gc.RefI31 in
    let first = prefixed_of c.args.bytes.now c.args.at 0xfb c.args.code 28 c.args.end c.requires c.in-28.is refl o refl in
    is_told c.args.features.0 c.args.bytes.now c.args.at c.args.end o first _ c.visit_ref_i31.ensures refl refl refl

pub returns-in-29-clause-told : goal.returns-in-29-clause-told
returns-in-29-clause-told g c =
    let o = op.Gc gc.I31GetS in
    let first = prefixed_of c.args.bytes.now c.args.at 0xfb c.args.code 29 c.args.end c.requires c.in-29.is refl o refl in
    is_told c.args.features.0 c.args.bytes.now c.args.at c.args.end o first _ c.visit_i31_get_s.ensures refl refl refl

pub returns-in-30-clause-told : goal.returns-in-30-clause-told
returns-in-30-clause-told g c =
    let o = op.Gc gc.I31GetU in
    let first = prefixed_of c.args.bytes.now c.args.at 0xfb c.args.code 30 c.args.end c.requires c.in-30.is refl o refl in
    is_told c.args.features.0 c.args.bytes.now c.args.at c.args.end o first _ c.visit_i31_get_u.ensures refl refl refl
