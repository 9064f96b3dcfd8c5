use Rattle.wasm_operator_validator_stacks.specs.determined.laws.Usable.{denies_as}
use Rattle.wasm_operator_validator_memory.specs.Tables.{reference_to}
use Rattle.wasm_operator_validator_memory.proofs.Null.{not_written}
use Rattle.wasm_operator_validator_memory.proofs.naming.name_written.Goals as goal

pub returns-in-Err : goal.returns-in-Err
returns-in-Err g c =
    let m = g.R.WasmModuleResources.meaning c.args.resources.now in
    rw c.refusal_of.ensures
    (denies_as c.in-Err.error.kind _
    (not_written c.in-Err.error.kind c.args.features.now.0 m (reference_to c.args.written) c.check_value_type.new.ty c.in-Err.ensures.refused c.in-Err.ensures.answer))
