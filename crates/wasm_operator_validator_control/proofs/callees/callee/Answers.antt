use Rattle.std.proofs.Common.{sym}
use Rattle.wasm_operator_validator_state.specs.resources.Meaning.{type_of_id}
use Rattle.wasm_operator_validator_state.specs.blocks.Signatures.{signature_in}
use Rattle.wasm_operator_validator_control.proofs.Naming.{not_named, is_named}
use Rattle.wasm_operator_validator_control.proofs.callees.callee.Goals as goal

pub returns-in-Err : goal.returns-in-Err
returns-in-Err g c =
    let m = g.R.WasmModuleResources.meaning c.args.resources.now in
    let t = type_of_id m c.in-Some.id in
    not_named c.args.validator.now m.«module».functions c.args.function_index t (sym c.in-Some.ensures.value) (c.in-Err.ensures m t c.sub_type_at_id.ensures)

pub returns : goal.returns
returns g c =
    let m = g.R.WasmModuleResources.meaning c.args.resources.now in
    let t = type_of_id m c.in-Some.id in
    is_named c.args.validator.now m.«module».functions c.args.function_index t (signature_in m c.in-Ok.function.now) (sym c.in-Some.ensures.value) (c.in-Ok.ensures m t c.sub_type_at_id.ensures)
