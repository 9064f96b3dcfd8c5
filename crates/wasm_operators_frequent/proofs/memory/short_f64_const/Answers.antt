use Rattle.std.proofs.Common.{refl}
use Rattle.wasm_operators_immediates.specs.Immediates.{F64Constant}
use Rattle.wasm_operators_enums.specs.Op as op
use Rattle.wasm_operators_enums.specs.declared.constant.ConstOperator.TheVariants as constant
use Rattle.wasm_operators_frequent.proofs.ShortReading.{told_with}
use Rattle.wasm_operators_frequent.proofs.Carried.{f64_of}
use Rattle.wasm_operators_frequent.proofs.memory.short_f64_const.Goals as goal

pub returns-in-68-clause-told : goal.returns-in-68-clause-told
returns-in-68-clause-told g c =
    told_with c.args.features.0 c.args.bytes.now c.args.at c.args.code 68 c.requires c.in-68.is
    (op.Const (constant.F64Const c.in-Some.value)) refl refl _ c.visit_f64_const.ensures refl refl
    (F64Constant c.in-Some.value) c.in-Some.end refl (λ limits. f64_of _ _ _ _ c.in-Some.value c.in-Some.ensures)
