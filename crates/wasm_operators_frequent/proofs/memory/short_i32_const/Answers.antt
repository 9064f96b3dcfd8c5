use Rattle.std.proofs.Common.{rules, ◌≡◌, refl, to_z, of_z, w32}
use Rattle.wasm_operators_immediates.specs.Immediates.{I32Constant}
use Rattle.wasm_operators_enums.specs.Op as op
use Rattle.wasm_operators_enums.specs.declared.constant.ConstOperator.TheVariants as constant
use Rattle.wasm_operators_frequent.proofs.ShortReading.{told_with}
use Rattle.wasm_operators_frequent.proofs.Carried.{i32_of}
use Rattle.wasm_operators_frequent.proofs.memory.short_i32_const.Goals as goal

pub returns-in-65-clause-told : goal.returns-in-65-clause-told
returns-in-65-clause-told g c =
    let held : to_z w32 (of_z w32 c.in-Some.value) ≡ c.in-Some.value = search rules in
    told_with c.args.features.0 c.args.bytes.now c.args.at c.args.code 65 c.requires c.in-65.is
    (op.Const (constant.I32Const (to_z w32 (of_z w32 c.in-Some.value)))) refl refl _ c.visit_i32_const.ensures refl refl
    (I32Constant (to_z w32 (of_z w32 c.in-Some.value))) c.in-Some.end refl
    (λ limits. i32_of _ _ _ _ (to_z w32 (of_z w32 c.in-Some.value)) (rw held c.in-Some.ensures.found))
