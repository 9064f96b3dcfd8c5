use Rattle.std.proofs.Common.{◌∙◌}
use Rattle.wasm_types.specs.values.declared.value.ValType.TheVariants as vals
use Rattle.wasm_operator_validator_fast_tables.proofs.Standing.{code_is, i32_is, i64_is, f32_is, f64_is, v128_is, reference_is}
use Rattle.wasm_operator_validator_fast_tables.proofs.codes.code_of.Goals as goal

pub returns-in-I32 : goal.returns-in-I32
returns-in-I32 c = λ lt m. code_is m c.args.ty.now vals.I32 0 c.in-I32.is (i32_is m)

pub returns-in-I64 : goal.returns-in-I64
returns-in-I64 c = λ lt m. code_is m c.args.ty.now vals.I64 1 c.in-I64.is (i64_is m)

pub returns-in-F32 : goal.returns-in-F32
returns-in-F32 c = λ lt m. code_is m c.args.ty.now vals.F32 2 c.in-F32.is (f32_is m)

pub returns-in-F64 : goal.returns-in-F64
returns-in-F64 c = λ lt m. code_is m c.args.ty.now vals.F64 3 c.in-F64.is (f64_is m)

pub returns-in-V128 : goal.returns-in-V128
returns-in-V128 c = λ lt m. code_is m c.args.ty.now vals.V128 4 c.in-V128.is (v128_is m)

pub returns-in-Ref : goal.returns-in-Ref
returns-in-Ref c = λ lt m. code_is m c.args.ty.now (vals.Ref c.in-Ref.ty) c.code_of_reference.result c.in-Ref.is (reference_is m c.in-Ref.ty ∙ c.code_of_reference.ensures lt m)
