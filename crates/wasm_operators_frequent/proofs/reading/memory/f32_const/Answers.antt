use Rattle.std.proofs.Common.{refl}
use Rattle.wasm_operators_immediates.specs.Immediates.{F32Constant}
use Rattle.wasm_operators_enums.specs.Op as op
use Rattle.wasm_operators_enums.specs.declared.constant.ConstOperator.TheVariants as constant
use Rattle.wasm_operators_frequent.proofs.ShortReading.{told_with}
use Rattle.wasm_operators_frequent.proofs.Carried.{f32_of}
use Rattle.wasm_operators_frequent.proofs.reading.memory.f32_const.Goals as goal

pub returns-in-67 : goal.returns-in-67
returns-in-67 c =
    told_with c.args.features.0 c.args.bytes.now c.args.at c.args.code 67 c.requires c.in-67.is
    (op.Const (constant.F32Const c.in-Some.value)) refl refl _ refl refl refl
    (F32Constant c.in-Some.value) c.in-Some.end refl (λ limits. f32_of _ _ _ _ c.in-Some.value c.in-Some.ensures)
