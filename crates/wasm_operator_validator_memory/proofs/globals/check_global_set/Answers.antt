use Rattle.std.proofs.Common.{rules}
use Rattle.std.proofs.Common.{[], ◌∷◌, false}
use Rattle.wasm_operators_immediates.specs.declared.proposal.Proposal.TheVariants.{Mvp}
use Rattle.wasm_operators_enums.specs.declared.memory.MemoryOperator.TheVariants as memory
use Rattle.wasm_operators_enums.specs.Op as op
use Rattle.wasm_operator_validator_state.specs.resources.Meaning.{type_in}
use Rattle.wasm_operator_validator_state.specs.Refusals.{refused}
use Rattle.wasm_operator_validator_stacks.specs.determined.laws.Determined.{not_begun, refused_here, undetermined, taken_only, determined}
use Rattle.wasm_operator_validator_memory.proofs.Operators.{set_in_table, set_type, set_none, set_constant}
use Rattle.wasm_operator_validator_memory.proofs.Room.{by_entry, by_content, has_table_types}
use Rattle.wasm_operator_validator_memory.proofs.globals.check_global_set.Goals as goal

pub returns-in-Err-clause-checks : goal.returns-in-Err-clause-checks
returns-in-Err-clause-checks g c =
    let m = g.R.WasmModuleResources.meaning c.args.resources.now in
    not_begun c.in-Err.refusal m c.args.validator.now (op.Memory (memory.GlobalSet c.args.global_index)) Mvp false (set_in_table c.args.global_index).is c.in-Err.ensures.begins c.in-Err.ensures.stops

pub returns-in-Err-usable_global-clause-checks : goal.returns-in-Err-usable_global-clause-checks
returns-in-Err-usable_global-clause-checks g c =
    let m = g.R.WasmModuleResources.meaning c.args.resources.now in
    refused_here _ m c.args.validator.now (op.Memory (memory.GlobalSet c.args.global_index)) Mvp false c.in-Ok.ensures.begins
    (undetermined m c.args.validator.now (op.Memory (memory.GlobalSet c.args.global_index)) Mvp false (set_in_table c.args.global_index) c.in-Ok.ensures.begins
    (set_none m c.args.validator.now c.args.global_index c.in-Err-usable_global.ensures.usable))

pub returns-then-not-global-clause-checks : goal.returns-then-not-global-clause-checks
returns-then-not-global-clause-checks g c =
    let m = g.R.WasmModuleResources.meaning c.args.resources.now in
    refused_here _ m c.args.validator.now (op.Memory (memory.GlobalSet c.args.global_index)) Mvp false c.in-Ok.ensures.begins
    (undetermined m c.args.validator.now (op.Memory (memory.GlobalSet c.args.global_index)) Mvp false (set_in_table c.args.global_index) c.in-Ok.ensures.begins
    (set_constant m c.args.validator.now c.args.global_index c.in-Ok-usable_global.global c.in-Ok-usable_global.ensures.usable c.if-not-global.true))

pub returns-clause-checks : goal.returns-clause-checks
returns-clause-checks g c =
    let m = g.R.WasmModuleResources.meaning c.args.resources.now in
    determined (refused c.pop_operand.result) m c.args.validator.now c.pop_operand.new.self (op.Memory (memory.GlobalSet c.args.global_index)) Mvp false (c.in-Ok-usable_global.global.content_type ∷ []) []
    (set_in_table c.args.global_index) c.in-Ok.ensures.begins (set_type m c.args.validator.now c.args.global_index c.in-Ok-usable_global.global c.in-Ok-usable_global.ensures.usable c.if-not-global.false)
    (taken_only (refused c.pop_operand.result) m c.args.validator.now c.pop_operand.new.self (type_in m c.in-Ok-usable_global.global.content_type ∷ []) c.pop_operand.ensures.does) (record { given = c.pop_operand.ensures.given; failed = c.pop_operand.ensures.failed; saved = c.pop_operand.ensures.saved })

pub returns-in-Err-clause-room : goal.returns-in-Err-clause-room
returns-in-Err-clause-room g c =
    by_entry c.in-Err.refusal (g.R.WasmModuleResources.meaning c.args.resources.now) c.args.validator.now (op.Memory (memory.GlobalSet c.args.global_index)) Mvp false c.in-Err.ensures.stops

pub returns-in-Err-usable_global-clause-room : goal.returns-in-Err-usable_global-clause-room
returns-in-Err-usable_global-clause-room g c =
    by_content _ (g.R.WasmModuleResources.meaning c.args.resources.now) c.args.validator.now (op.Memory (memory.GlobalSet c.args.global_index)) c.in-Err-usable_global.ensures.refused

pub returns-clause-room : goal.returns-clause-room
returns-clause-room g c = λ e.
    let m = g.R.WasmModuleResources.meaning c.args.resources.now in
    has_table_types m c.args.validator.now (op.Memory (memory.GlobalSet c.args.global_index)) Mvp false (c.in-Ok-usable_global.global.content_type ∷ []) [] (set_in_table c.args.global_index) c.in-Ok.ensures.begins
    (set_type m c.args.validator.now c.args.global_index c.in-Ok-usable_global.global c.in-Ok-usable_global.ensures.usable c.if-not-global.false)

pub returns-then-not-global-clause-room : goal.returns-then-not-global-clause-room
returns-then-not-global-clause-room c = search rules
