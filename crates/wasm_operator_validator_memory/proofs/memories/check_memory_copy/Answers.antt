use Rattle.std.proofs.Common.{[], ◌∷◌, false}
use Rattle.wasm_operators_immediates.specs.declared.proposal.Proposal.TheVariants.{BulkMemoryOpt}
use Rattle.wasm_operators_enums.specs.declared.bulk.BulkOperator.TheVariants as bulk
use Rattle.wasm_operators_enums.specs.Op as op
use Rattle.wasm_operator_validator_state.specs.Refusals.{refused}
use Rattle.wasm_operator_validator_state.specs.State.{types_in}
use Rattle.wasm_operator_validator_stacks.specs.determined.laws.Determined.{not_begun, refused_here, undetermined, taken_only, determined}
use Rattle.wasm_operator_validator_memory.proofs.Spaces.{copy_in_table, copy_type, copy_none_to, copy_none_from}
use Rattle.wasm_operator_validator_memory.proofs.memories.check_memory_copy.Goals as goal

pub returns-in-Err : goal.returns-in-Err
returns-in-Err g c =
    let m = g.R.WasmModuleResources.meaning c.args.resources.now in
    not_begun c.in-Err.refusal m c.args.validator.now (op.Bulk (bulk.MemoryCopy c.args.dst_mem c.args.src_mem)) BulkMemoryOpt false (copy_in_table c.args.dst_mem c.args.src_mem).is c.in-Err.ensures.begins c.in-Err.ensures.stops

pub returns-in-Err-find_memory : goal.returns-in-Err-find_memory
returns-in-Err-find_memory g c =
    let m = g.R.WasmModuleResources.meaning c.args.resources.now in
    refused_here _ m c.args.validator.now (op.Bulk (bulk.MemoryCopy c.args.dst_mem c.args.src_mem)) BulkMemoryOpt false c.in-Ok.ensures.begins
    (undetermined m c.args.validator.now (op.Bulk (bulk.MemoryCopy c.args.dst_mem c.args.src_mem)) BulkMemoryOpt false (copy_in_table c.args.dst_mem c.args.src_mem) c.in-Ok.ensures.begins
    (copy_none_to m c.args.validator.now c.args.dst_mem c.args.src_mem c.in-Err-find_memory.ensures))

pub returns-in-Err-find_memory-2 : goal.returns-in-Err-find_memory-2
returns-in-Err-find_memory-2 g c =
    let m = g.R.WasmModuleResources.meaning c.args.resources.now in
    refused_here _ m c.args.validator.now (op.Bulk (bulk.MemoryCopy c.args.dst_mem c.args.src_mem)) BulkMemoryOpt false c.in-Ok.ensures.begins
    (undetermined m c.args.validator.now (op.Bulk (bulk.MemoryCopy c.args.dst_mem c.args.src_mem)) BulkMemoryOpt false (copy_in_table c.args.dst_mem c.args.src_mem) c.in-Ok.ensures.begins
    (copy_none_from m c.args.validator.now c.args.dst_mem c.args.src_mem c.in-Ok-find_memory.to c.in-Ok-find_memory.ensures c.in-Err-find_memory-2.ensures))

pub returns : goal.returns
returns g c =
    let m = g.R.WasmModuleResources.meaning c.args.resources.now in
    determined (refused c.pop_operands.result) m c.args.validator.now c.pop_operands.new.self (op.Bulk (bulk.MemoryCopy c.args.dst_mem c.args.src_mem)) BulkMemoryOpt false (c.index_type.result ∷ c.index_type-2.result ∷ c.length_type.result ∷ []) []
    (copy_in_table c.args.dst_mem c.args.src_mem) c.in-Ok.ensures.begins
    (copy_type m c.args.validator.now c.args.dst_mem c.args.src_mem c.in-Ok-find_memory.to c.in-Ok-find_memory-2.from c.index_type.result c.index_type-2.result c.length_type.result c.in-Ok-find_memory.ensures
    c.in-Ok-find_memory-2.ensures c.index_type.ensures c.index_type-2.ensures c.length_type.ensures)
    (taken_only (refused c.pop_operands.result) m c.args.validator.now c.pop_operands.new.self (types_in m (c.index_type.result ∷ c.index_type-2.result ∷ c.length_type.result ∷ [])) c.pop_operands.ensures.does) (record { given = c.pop_operands.ensures.given; failed = c.pop_operands.ensures.failed; saved = c.pop_operands.ensures.saved })
