use Rattle.std.proofs.Common.{[], ◌∷◌, false}
use Rattle.wasm_types.specs.values.declared.value.ValType.TheVariants as vals
use Rattle.wasm_operators_immediates.specs.declared.proposal.Proposal.TheVariants.{BulkMemory}
use Rattle.wasm_operators_enums.specs.declared.bulk.BulkOperator.TheVariants as bulk
use Rattle.wasm_operators_enums.specs.Op as op
use Rattle.wasm_operator_validator_state.specs.Refusals.{refused}
use Rattle.wasm_operator_validator_state.specs.State.{types_in}
use Rattle.wasm_operator_validator_stacks.specs.determined.laws.Determined.{not_begun, refused_here, undetermined, taken_only, determined}
use Rattle.wasm_operator_validator_memory.proofs.Spaces.{init_in_table, init_type, init_none, init_no_data}
use Rattle.wasm_operator_validator_memory.proofs.memories.check_memory_init.Goals as goal

pub returns-in-Err : goal.returns-in-Err
returns-in-Err g c =
    let m = g.R.WasmModuleResources.meaning c.args.resources.now in
    not_begun c.in-Err.refusal m c.args.validator.now (op.Bulk (bulk.MemoryInit c.args.data_index c.args.mem)) BulkMemory false (init_in_table c.args.data_index c.args.mem).is c.in-Err.ensures.begins c.in-Err.ensures.stops

pub returns-in-Err-find_memory : goal.returns-in-Err-find_memory
returns-in-Err-find_memory g c =
    let m = g.R.WasmModuleResources.meaning c.args.resources.now in
    refused_here _ m c.args.validator.now (op.Bulk (bulk.MemoryInit c.args.data_index c.args.mem)) BulkMemory false c.in-Ok.ensures.begins
    (undetermined m c.args.validator.now (op.Bulk (bulk.MemoryInit c.args.data_index c.args.mem)) BulkMemory false (init_in_table c.args.data_index c.args.mem) c.in-Ok.ensures.begins
    (init_none m c.args.validator.now c.args.data_index c.args.mem c.in-Err-find_memory.ensures))

pub returns-in-Err-find_data : goal.returns-in-Err-find_data
returns-in-Err-find_data g c =
    let m = g.R.WasmModuleResources.meaning c.args.resources.now in
    refused_here _ m c.args.validator.now (op.Bulk (bulk.MemoryInit c.args.data_index c.args.mem)) BulkMemory false c.in-Ok.ensures.begins
    (undetermined m c.args.validator.now (op.Bulk (bulk.MemoryInit c.args.data_index c.args.mem)) BulkMemory false (init_in_table c.args.data_index c.args.mem) c.in-Ok.ensures.begins
    (init_no_data m c.args.validator.now c.args.data_index c.args.mem c.in-Ok-find_memory.memory c.in-Ok-find_memory.ensures c.in-Err-find_data.ensures.found))

pub returns : goal.returns
returns g c =
    let m = g.R.WasmModuleResources.meaning c.args.resources.now in
    determined (refused c.pop_operands.result) m c.args.validator.now c.pop_operands.new.self (op.Bulk (bulk.MemoryInit c.args.data_index c.args.mem)) BulkMemory false (c.index_type.result ∷ vals.I32 ∷ vals.I32 ∷ []) []
    (init_in_table c.args.data_index c.args.mem) c.in-Ok.ensures.begins
    (init_type m c.args.validator.now c.args.data_index c.args.mem c.in-Ok-find_memory.memory c.index_type.result c.in-Ok-find_memory.ensures c.in-Ok-find_data.ensures.found c.index_type.ensures)
    (taken_only (refused c.pop_operands.result) m c.args.validator.now c.pop_operands.new.self (types_in m (c.index_type.result ∷ vals.I32 ∷ vals.I32 ∷ [])) c.pop_operands.ensures.does) (record { given = c.pop_operands.ensures.given; failed = c.pop_operands.ensures.failed; saved = c.pop_operands.ensures.saved })
