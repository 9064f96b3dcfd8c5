use Rattle.std.proofs.Common.{[], ◌∷◌, false}
use Rattle.wasm_operators_immediates.specs.declared.proposal.Proposal.TheVariants.{Mvp}
use Rattle.wasm_operators_enums.specs.declared.memory.MemoryOperator.TheVariants as memory
use Rattle.wasm_operators_enums.specs.Op as op
use Rattle.wasm_operator_validator_state.specs.resources.Meaning.{type_in}
use Rattle.wasm_operator_validator_state.specs.Refusals.{refused}
use Rattle.wasm_operator_validator_stacks.specs.determined.laws.Determined.{not_begun, refused_here, undetermined, given_only, determined}
use Rattle.wasm_operator_validator_memory.proofs.Operators.{get_in_table, get_type, get_none}
use Rattle.wasm_operator_validator_memory.proofs.Room.{by_entry, by_content, has_table_types}
use Rattle.wasm_operator_validator_memory.proofs.globals.check_global_get.Goals as goal

pub returns-in-Err-clause-checks : goal.returns-in-Err-clause-checks
returns-in-Err-clause-checks g c =
    let m = g.R.WasmModuleResources.meaning c.args.resources.now in
    not_begun c.in-Err.refusal m c.args.validator.now (op.Memory (memory.GlobalGet c.args.global_index)) Mvp false (get_in_table c.args.global_index).is c.in-Err.ensures.begins c.in-Err.ensures.stops

pub returns-in-Err-usable_global-clause-checks : goal.returns-in-Err-usable_global-clause-checks
returns-in-Err-usable_global-clause-checks g c =
    let m = g.R.WasmModuleResources.meaning c.args.resources.now in
    refused_here _ m c.args.validator.now (op.Memory (memory.GlobalGet c.args.global_index)) Mvp false c.in-Ok.ensures.begins
    (undetermined m c.args.validator.now (op.Memory (memory.GlobalGet c.args.global_index)) Mvp false (get_in_table c.args.global_index) c.in-Ok.ensures.begins
    (get_none m c.args.validator.now c.args.global_index c.in-Err-usable_global.ensures.usable))

pub returns-clause-checks : goal.returns-clause-checks
returns-clause-checks g c =
    let m = g.R.WasmModuleResources.meaning c.args.resources.now in
    determined (refused c.push_operands.result) m c.args.validator.now c.push_operands.new.self (op.Memory (memory.GlobalGet c.args.global_index)) Mvp false [] (c.in-Ok-usable_global.global.content_type ∷ [])
    (get_in_table c.args.global_index) c.in-Ok.ensures.begins (get_type m c.args.validator.now c.args.global_index c.in-Ok-usable_global.global c.in-Ok-usable_global.ensures.usable)
    (given_only (refused c.push_operands.result) m c.args.validator.now c.push_operands.new.self (type_in m c.in-Ok-usable_global.global.content_type ∷ []) c.push_operands.ensures.does) (record { given = c.push_operands.ensures.given; failed = c.push_operands.ensures.failed; saved = c.push_operands.ensures.saved })

pub returns-in-Err-clause-room : goal.returns-in-Err-clause-room
returns-in-Err-clause-room g c =
    by_entry c.in-Err.refusal (g.R.WasmModuleResources.meaning c.args.resources.now) c.args.validator.now (op.Memory (memory.GlobalGet c.args.global_index)) Mvp false c.in-Err.ensures.stops

pub returns-in-Err-usable_global-clause-room : goal.returns-in-Err-usable_global-clause-room
returns-in-Err-usable_global-clause-room g c =
    by_content _ (g.R.WasmModuleResources.meaning c.args.resources.now) c.args.validator.now (op.Memory (memory.GlobalGet c.args.global_index)) c.in-Err-usable_global.ensures.refused

pub returns-clause-room : goal.returns-clause-room
returns-clause-room g c = λ e.
    let m = g.R.WasmModuleResources.meaning c.args.resources.now in
    has_table_types m c.args.validator.now (op.Memory (memory.GlobalGet c.args.global_index)) Mvp false [] (c.in-Ok-usable_global.global.content_type ∷ []) (get_in_table c.args.global_index) c.in-Ok.ensures.begins
    (get_type m c.args.validator.now c.args.global_index c.in-Ok-usable_global.global c.in-Ok-usable_global.ensures.usable)
