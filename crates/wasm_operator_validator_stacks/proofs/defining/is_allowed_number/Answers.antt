use Rattle.wasm_operator_validator_stacks.proofs.Numbers.{i32_is, i64_is, f32_is, f64_is}
use Rattle.wasm_operator_validator_stacks.proofs.defining.is_allowed_number.Goals as goal

pub returns-in-I32 : goal.returns-in-I32
returns-in-I32 c = λ h. i32_is c.args.features.0 c.args.ty.now c.in-I32.is

pub returns-in-I64 : goal.returns-in-I64
returns-in-I64 c = λ h. i64_is c.args.features.0 c.args.ty.now c.in-I64.is

pub returns-in-F32 : goal.returns-in-F32
returns-in-F32 c = f32_is c.args.features.0 c.args.ty.now c.floats.result c.in-F32.is c.floats.ensures

pub returns-in-F64 : goal.returns-in-F64
returns-in-F64 c = f64_is c.args.features.0 c.args.ty.now c.floats-in-F64.result c.in-F64.is c.floats-in-F64.ensures
