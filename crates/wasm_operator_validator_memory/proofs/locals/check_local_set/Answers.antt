use Rattle.std.proofs.Common.{None, [], ◌∷◌, false, refl}
use Rattle.wasm_operators_immediates.specs.declared.proposal.Proposal.TheVariants.{Mvp}
use Rattle.wasm_operators_enums.specs.declared.memory.MemoryOperator.TheVariants as memory
use Rattle.wasm_operators_enums.specs.Op as op
use Rattle.wasm_operator_validator_state.specs.resources.Meaning.{type_in}
use Rattle.wasm_operator_validator_state.specs.Refusals.{kind_of}
use Rattle.wasm_operator_validator_stacks.specs.determined.laws.Determined.{not_begun, refused_here, no_row, taken_only}
use Rattle.wasm_operator_validator_memory.proofs.Operators.{local_set_is, local_set_row, local_set_none}
use Rattle.wasm_operator_validator_memory.proofs.Setting.{set_in_the_end, not_exchanged, set_within}
use Rattle.wasm_operator_validator_memory.proofs.Room.{by_entry, by_content, has_types}
use Rattle.wasm_operator_validator_memory.proofs.locals.check_local_set.Goals as goal

pub returns-in-Err-clause-checks : goal.returns-in-Err-clause-checks
returns-in-Err-clause-checks g c =
    let m = g.R.WasmModuleResources.meaning c.args.resources.now in
    not_begun c.in-Err.refusal m c.args.validator.now (op.Memory (memory.LocalSet c.args.local_index)) Mvp false (local_set_is c.args.local_index) c.in-Err.ensures.begins c.in-Err.ensures.stops

pub returns-in-Err-usable_local-clause-checks : goal.returns-in-Err-usable_local-clause-checks
returns-in-Err-usable_local-clause-checks g c =
    let m = g.R.WasmModuleResources.meaning c.args.resources.now in
    refused_here _ m c.args.validator.now (op.Memory (memory.LocalSet c.args.local_index)) Mvp false c.in-Ok.ensures.begins
    (no_row m c.args.validator.now (op.Memory (memory.LocalSet c.args.local_index)) Mvp false (local_set_is c.args.local_index) c.in-Ok.ensures.begins
    (local_set_none m c.args.validator.now c.args.local_index c.in-Err-usable_local.ensures.usable))

pub returns-in-Err-pop_operand-clause-checks : goal.returns-in-Err-pop_operand-clause-checks
returns-in-Err-pop_operand-clause-checks g c =
    let m = g.R.WasmModuleResources.meaning c.args.resources.now in
    not_exchanged (kind_of c.in-Err-pop_operand.refusal) m c.args.validator.now c.pop_operand.new.self (op.Memory (memory.LocalSet c.args.local_index)) Mvp false (type_in m c.in-Ok-usable_local.ty ∷ []) []
    (local_set_is c.args.local_index) c.in-Ok.ensures.begins (local_set_row m c.args.validator.now c.args.local_index (type_in m c.in-Ok-usable_local.ty) c.in-Ok-usable_local.ensures.usable) c.in-Err-pop_operand.ensures.does
    (record { given = c.pop_operand.ensures.given; failed = c.pop_operand.ensures.failed; saved = c.pop_operand.ensures.saved })

pub set_init-requires : goal.set_init-requires
set_init-requires g c =
    let m = g.R.WasmModuleResources.meaning c.args.resources.now in
    set_within m c.args.validator.now c.pop_operand.new.self c.args.local_index (type_in m c.in-Ok-usable_local.ty) c.pop_operand.ensures.given c.in-Ok-usable_local.ensures.usable.0

pub returns-clause-checks : goal.returns-clause-checks
returns-clause-checks g c =
    let m = g.R.WasmModuleResources.meaning c.args.resources.now in
    set_in_the_end c.set_init.result m c.args.validator.now c.pop_operand.new.self c.set_init.new.self (op.Memory (memory.LocalSet c.args.local_index)) Mvp false
    (type_in m c.in-Ok-usable_local.ty ∷ []) [] c.args.local_index (local_set_is c.args.local_index) c.in-Ok.ensures.begins (λ set. refl)
    (local_set_row m c.args.validator.now c.args.local_index (type_in m c.in-Ok-usable_local.ty) c.in-Ok-usable_local.ensures.usable)
    (taken_only None m c.args.validator.now c.pop_operand.new.self (type_in m c.in-Ok-usable_local.ty ∷ []) c.in-Ok-pop_operand.ensures.does) (c.set_init.ensures.set m) c.set_init.ensures.refused

pub returns-in-Err-clause-room : goal.returns-in-Err-clause-room
returns-in-Err-clause-room g c =
    by_entry c.in-Err.refusal (g.R.WasmModuleResources.meaning c.args.resources.now) c.args.validator.now (op.Memory (memory.LocalSet c.args.local_index)) Mvp false c.in-Err.ensures.stops

pub returns-in-Err-usable_local-clause-room : goal.returns-in-Err-usable_local-clause-room
returns-in-Err-usable_local-clause-room g c =
    by_content _ (g.R.WasmModuleResources.meaning c.args.resources.now) c.args.validator.now (op.Memory (memory.LocalSet c.args.local_index)) c.in-Err-usable_local.ensures.refused

pub returns-in-Err-pop_operand-clause-room : goal.returns-in-Err-pop_operand-clause-room
returns-in-Err-pop_operand-clause-room g c = λ e.
    let m = g.R.WasmModuleResources.meaning c.args.resources.now in
    has_types m c.args.validator.now (op.Memory (memory.LocalSet c.args.local_index)) Mvp false (type_in m c.in-Ok-usable_local.ty ∷ []) [] (local_set_is c.args.local_index) c.in-Ok.ensures.begins
    (local_set_row m c.args.validator.now c.args.local_index (type_in m c.in-Ok-usable_local.ty) c.in-Ok-usable_local.ensures.usable)

pub returns-clause-room : goal.returns-clause-room
returns-clause-room g c = λ e.
    let m = g.R.WasmModuleResources.meaning c.args.resources.now in
    has_types m c.args.validator.now (op.Memory (memory.LocalSet c.args.local_index)) Mvp false (type_in m c.in-Ok-usable_local.ty ∷ []) [] (local_set_is c.args.local_index) c.in-Ok.ensures.begins
    (local_set_row m c.args.validator.now c.args.local_index (type_in m c.in-Ok-usable_local.ty) c.in-Ok-usable_local.ensures.usable)
