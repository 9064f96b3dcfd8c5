use Rattle.wasm_operator_validator_state.specs.Refusals.{kind_of}
use Rattle.wasm_operator_validator_state.proofs.Naming.{no_type_at_all, plain_i32, plain_i64}
use Rattle.wasm_operator_validator_state.proofs.blocks.block_type.check_result_type.Goals as goal

pub returns-in-Err : goal.returns-in-Err
returns-in-Err g c =
    no_type_at_all c.in-Err.error.kind (kind_of c.type_refusal.result) (g.R.WasmModuleResources.meaning c.args.resources.now) c.args.features.0 c.args.written c.check_value_type.new.ty
    c.in-Err.ensures.refused c.type_refusal.ensures.1 c.in-Err.ensures.answer

pub returns-in-I32 : goal.returns-in-I32
returns-in-I32 g c = rw c.in-I32.is (plain_i32 (g.R.WasmModuleResources.meaning c.args.resources.now) c.args.features.0)

pub returns-in-I64 : goal.returns-in-I64
returns-in-I64 g c = rw c.in-I64.is (plain_i64 (g.R.WasmModuleResources.meaning c.args.resources.now) c.args.features.0)
