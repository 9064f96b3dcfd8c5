use Rattle.std.proofs.Common.{false}
use Rattle.wasm_operators_immediates.specs.declared.proposal.Proposal.TheVariants.{BulkMemory}
use Rattle.wasm_operators_enums.specs.declared.bulk.BulkOperator.TheVariants as bulk
use Rattle.wasm_operators_enums.specs.Op as op
use Rattle.wasm_operator_validator_stacks.specs.determined.laws.Determined.{not_begun, stopped_by_content}
use Rattle.wasm_operator_validator_memory.proofs.Spaces.{drop_in_table, data_dropped}
use Rattle.wasm_operator_validator_memory.proofs.memories.check_data_drop.Goals as goal

pub returns-in-Err-clause-checks : goal.returns-in-Err-clause-checks
returns-in-Err-clause-checks g c =
    let m = g.R.WasmModuleResources.meaning c.args.resources.now in
    not_begun c.in-Err.refusal m c.args.validator.now (op.Bulk (bulk.DataDrop c.args.data_index)) BulkMemory false (drop_in_table c.args.data_index).is c.in-Err.ensures.begins c.in-Err.ensures.stops

pub returns-clause-checks : goal.returns-clause-checks
returns-clause-checks g c = data_dropped c.find_data.result (g.R.WasmModuleResources.meaning c.args.resources.now) c.args.validator.now c.args.data_index c.in-Ok.ensures.begins c.find_data.ensures.found

pub returns-in-Err-clause-memory : goal.returns-in-Err-clause-memory
returns-in-Err-clause-memory g c = stopped_by_content c.args.validator.now BulkMemory false c.in-Err.refusal c.in-Err.ensures.stops
