use Rattle.std.proofs.Common.{false}
use Rattle.wasm_operators_immediates.specs.declared.proposal.Proposal.TheVariants.{ReferenceTypes}
use Rattle.wasm_operators_enums.specs.declared.bulk.BulkOperator.TheVariants as bulk
use Rattle.wasm_operator_validator_state.specs.resources.Meaning.{type_in}
use Rattle.wasm_operator_validator_state.specs.Refusals.{refused}
use Rattle.wasm_operator_validator_stacks.specs.determined.laws.Determined.{not_begun, refused_here}
use Rattle.wasm_operator_validator_memory.proofs.Indexing.{is_bulk}
use Rattle.wasm_operator_validator_memory.proofs.ToFunctions.{func_op, not_referable, function_pushed}
use Rattle.wasm_operator_validator_memory.proofs.functions.check_ref_func.Goals as goal

pub returns-in-Err : goal.returns-in-Err
returns-in-Err g c =
    let m = g.R.WasmModuleResources.meaning c.args.resources.now in
    not_begun c.in-Err.refusal m c.args.validator.now (func_op c.args.function_index) ReferenceTypes false (is_bulk (bulk.RefFunc c.args.function_index)) c.in-Err.ensures.begins c.in-Err.ensures.stops

pub returns-in-Err-name_function : goal.returns-in-Err-name_function
returns-in-Err-name_function g c =
    let m = g.R.WasmModuleResources.meaning c.args.resources.now in
    refused_here _ m c.args.validator.now (func_op c.args.function_index) ReferenceTypes false c.in-Ok.ensures.begins
    (not_referable m c.args.validator.now c.args.function_index c.in-Ok.ensures.begins c.in-Err-name_function.ensures)

pub returns : goal.returns
returns g c =
    let m = g.R.WasmModuleResources.meaning c.args.resources.now in
    function_pushed (refused c.push_operands.result) m c.args.validator.now c.push_operands.new.self c.args.function_index (type_in m c.in-Ok-name_function.ty)
    c.in-Ok.ensures.begins c.in-Ok-name_function.ensures c.push_operands.ensures.does
    (record { given = c.push_operands.ensures.given; failed = c.push_operands.ensures.failed; saved = c.push_operands.ensures.saved })
