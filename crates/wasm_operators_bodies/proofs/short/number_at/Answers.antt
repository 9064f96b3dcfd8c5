use Rattle.std.proofs.Common.{refl}
use Rattle.wasm_operators_immediates.specs.Immediates.{I32Constant, I64Constant}
use Rattle.wasm_operators_enums.specs.Op as op
use Rattle.wasm_operators_enums.specs.declared.constant.ConstOperator.TheVariants as constant
use Rattle.wasm_operators_frequent.proofs.ShortReading.{told_with}
use Rattle.wasm_operators_frequent.proofs.Carried.{i32_of, i64_of}
use Rattle.wasm_operators_bodies.proofs.short.number_at.Goals as goal

pub returns-in-Some : goal.returns-in-Some
returns-in-Some c features =
    told_with features c.args.bytes.now 0 c.args.code 65 c.requires c.in-65.is
    (op.Const (constant.I32Const c.in-Some._value)) refl refl _ (c.in-Some._value, refl) refl refl
    (I32Constant c.in-Some._value) c.in-Some.end refl (λ limits. i32_of _ _ _ _ c.in-Some._value c.in-Some.ensures.found)

pub returns-in-Some-short_i64_at : goal.returns-in-Some-short_i64_at
returns-in-Some-short_i64_at c features =
    told_with features c.args.bytes.now 0 c.args.code 66 c.requires c.in-66.is
    (op.Const (constant.I64Const c.in-Some-short_i64_at._value)) refl refl _ (c.in-Some-short_i64_at._value, refl) refl refl
    (I64Constant c.in-Some-short_i64_at._value) c.in-Some-short_i64_at.end refl
    (λ limits. i64_of _ _ _ _ c.in-Some-short_i64_at._value c.in-Some-short_i64_at.ensures.found)
