use Rattle.std.proofs.Common.{rules, ◌≡◌, refl, to_z, of_z, w64}
use Rattle.wasm_operators_immediates.specs.Immediates.{I64Constant}
use Rattle.wasm_operators_enums.specs.Op as op
use Rattle.wasm_operators_enums.specs.declared.constant.ConstOperator.TheVariants as constant
use Rattle.wasm_operators_frequent.proofs.ShortReading.{told_with}
use Rattle.wasm_operators_frequent.proofs.Carried.{i64_of}
use Rattle.wasm_operators_frequent.proofs.reading.memory.i64_const.Goals as goal

pub returns-in-66 : goal.returns-in-66
returns-in-66 c =
    let held : to_z w64 (of_z w64 c.in-Some.value) ≡ c.in-Some.value = search rules in
    told_with c.args.features.0 c.args.bytes.now c.args.at c.args.code 66 c.requires c.in-66.is
    (op.Const (constant.I64Const (to_z w64 (of_z w64 c.in-Some.value)))) refl refl _ refl refl refl
    (I64Constant (to_z w64 (of_z w64 c.in-Some.value))) c.in-Some.end refl
    (λ limits. i64_of _ _ _ _ (to_z w64 (of_z w64 c.in-Some.value)) (rw held c.in-Some.ensures.found))
