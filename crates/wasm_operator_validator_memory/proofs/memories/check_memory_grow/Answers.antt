use Rattle.std.proofs.Common.{[], ◌∷◌, false}
use Rattle.wasm_operators_immediates.specs.declared.proposal.Proposal.TheVariants.{Mvp}
use Rattle.wasm_operators_enums.specs.declared.memory.MemoryOperator.TheVariants as memory
use Rattle.wasm_operators_enums.specs.Op as op
use Rattle.wasm_operator_validator_state.specs.Refusals.{refused}
use Rattle.wasm_operator_validator_stacks.specs.determined.laws.Determined.{not_begun, refused_here, undetermined, determined}
use Rattle.wasm_operator_validator_memory.proofs.Spaces.{grow_in_table, grow_type, grow_none}
use Rattle.wasm_operator_validator_memory.proofs.memories.check_memory_grow.Goals as goal

pub returns-in-Err : goal.returns-in-Err
returns-in-Err g c =
    let m = g.R.WasmModuleResources.meaning c.args.resources.now in
    not_begun c.in-Err.refusal m c.args.validator.now (op.Memory (memory.MemoryGrow c.args.mem)) Mvp false (grow_in_table c.args.mem).is c.in-Err.ensures.begins c.in-Err.ensures.stops

pub returns-in-Err-find_memory : goal.returns-in-Err-find_memory
returns-in-Err-find_memory g c =
    let m = g.R.WasmModuleResources.meaning c.args.resources.now in
    refused_here _ m c.args.validator.now (op.Memory (memory.MemoryGrow c.args.mem)) Mvp false c.in-Ok.ensures.begins
    (undetermined m c.args.validator.now (op.Memory (memory.MemoryGrow c.args.mem)) Mvp false (grow_in_table c.args.mem) c.in-Ok.ensures.begins (grow_none m c.args.validator.now c.args.mem c.in-Err-find_memory.ensures))

pub returns : goal.returns
returns g c =
    let m = g.R.WasmModuleResources.meaning c.args.resources.now in
    determined (refused c.exchange.result) m c.args.validator.now c.exchange.new.self (op.Memory (memory.MemoryGrow c.args.mem)) Mvp false (c.index_type.result ∷ []) (c.index_type-2.result ∷ []) (grow_in_table c.args.mem) c.in-Ok.ensures.begins
    (grow_type m c.args.validator.now c.args.mem c.in-Ok-find_memory.memory c.index_type.result c.index_type-2.result c.in-Ok-find_memory.ensures c.index_type.ensures c.index_type-2.ensures)
    c.exchange.ensures.does (record { given = c.exchange.ensures.given; failed = c.exchange.ensures.failed; saved = c.exchange.ensures.saved })
