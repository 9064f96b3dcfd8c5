use Rattle.std.proofs.Common.{[], ◌∷◌, false, refl}
use Rattle.wasm_operators_immediates.specs.declared.proposal.Proposal.TheVariants.{Mvp}
use Rattle.wasm_operators_enums.specs.declared.memory.MemoryOperator.TheVariants as memory
use Rattle.wasm_operators_enums.specs.Op as op
use Rattle.wasm_operator_validator_state.specs.resources.Meaning.{type_in}
use Rattle.wasm_operator_validator_state.specs.Refusals.{refused}
use Rattle.wasm_operator_validator_state.specs.State.{initialised}
use Rattle.wasm_operator_validator_stacks.specs.determined.laws.Determined.{not_begun, refused_here, no_row, given_only, by_types}
use Rattle.wasm_operator_validator_memory.proofs.Operators.{local_get_is, local_get_row, local_get_none, local_get_unset, is_set, is_unset}
use Rattle.wasm_operator_validator_memory.proofs.Setting.{set_within}
use Rattle.wasm_operator_validator_memory.proofs.Room.{by_entry, by_content, has_types}
use Rattle.wasm_operator_validator_memory.proofs.locals.check_local_get.Goals as goal

pub returns-in-Err-clause-checks : goal.returns-in-Err-clause-checks
returns-in-Err-clause-checks g c =
    let m = g.R.WasmModuleResources.meaning c.args.resources.now in
    not_begun c.in-Err.refusal m c.args.validator.now (op.Memory (memory.LocalGet c.args.local_index)) Mvp false (local_get_is c.args.local_index) c.in-Err.ensures.begins c.in-Err.ensures.stops

pub returns-in-Err-usable_local-clause-checks : goal.returns-in-Err-usable_local-clause-checks
returns-in-Err-usable_local-clause-checks g c =
    let m = g.R.WasmModuleResources.meaning c.args.resources.now in
    refused_here _ m c.args.validator.now (op.Memory (memory.LocalGet c.args.local_index)) Mvp false c.in-Ok.ensures.begins
    (no_row m c.args.validator.now (op.Memory (memory.LocalGet c.args.local_index)) Mvp false (local_get_is c.args.local_index) c.in-Ok.ensures.begins
    (local_get_none m c.args.validator.now c.args.local_index c.in-Err-usable_local.ensures.usable))

pub is_uninit-requires : goal.is_uninit-requires
is_uninit-requires g c =
    let m = g.R.WasmModuleResources.meaning c.args.resources.now in
    set_within m c.args.validator.now c.args.validator.now c.args.local_index (type_in m c.in-Ok-usable_local.ty) refl c.in-Ok-usable_local.ensures.usable.0

pub returns-then-is_uninit-clause-checks : goal.returns-then-is_uninit-clause-checks
returns-then-is_uninit-clause-checks g c =
    let m = g.R.WasmModuleResources.meaning c.args.resources.now in
    refused_here _ m c.args.validator.now (op.Memory (memory.LocalGet c.args.local_index)) Mvp false c.in-Ok.ensures.begins
    (no_row m c.args.validator.now (op.Memory (memory.LocalGet c.args.local_index)) Mvp false (local_get_is c.args.local_index) c.in-Ok.ensures.begins
    (local_get_unset m c.args.validator.now c.args.local_index
    (is_unset c.is_uninit.result (initialised m c.args.validator.now.given c.args.validator.now.inits c.args.local_index) (c.is_uninit.ensures m) c.if-is_uninit.true)))

pub returns-clause-checks : goal.returns-clause-checks
returns-clause-checks g c =
    let m = g.R.WasmModuleResources.meaning c.args.resources.now in
    by_types (refused c.push_operands.result) m c.args.validator.now c.push_operands.new.self (op.Memory (memory.LocalGet c.args.local_index)) Mvp false
    [] (type_in m c.in-Ok-usable_local.ty ∷ []) (local_get_is c.args.local_index) c.in-Ok.ensures.begins (λ set. refl)
    (local_get_row m c.args.validator.now c.args.local_index (type_in m c.in-Ok-usable_local.ty) c.in-Ok-usable_local.ensures.usable
    (is_set c.is_uninit.result (initialised m c.args.validator.now.given c.args.validator.now.inits c.args.local_index) (c.is_uninit.ensures m) c.if-is_uninit.false))
    (given_only (refused c.push_operands.result) m c.args.validator.now c.push_operands.new.self (type_in m c.in-Ok-usable_local.ty ∷ []) c.push_operands.ensures.does)
    (record { given = c.push_operands.ensures.given; failed = c.push_operands.ensures.failed; saved = c.push_operands.ensures.saved })

pub returns-in-Err-clause-room : goal.returns-in-Err-clause-room
returns-in-Err-clause-room g c =
    by_entry c.in-Err.refusal (g.R.WasmModuleResources.meaning c.args.resources.now) c.args.validator.now (op.Memory (memory.LocalGet c.args.local_index)) Mvp false c.in-Err.ensures.stops

pub returns-in-Err-usable_local-clause-room : goal.returns-in-Err-usable_local-clause-room
returns-in-Err-usable_local-clause-room g c =
    by_content _ (g.R.WasmModuleResources.meaning c.args.resources.now) c.args.validator.now (op.Memory (memory.LocalGet c.args.local_index)) c.in-Err-usable_local.ensures.refused

pub returns-clause-room : goal.returns-clause-room
returns-clause-room g c = λ e.
    let m = g.R.WasmModuleResources.meaning c.args.resources.now in
    has_types m c.args.validator.now (op.Memory (memory.LocalGet c.args.local_index)) Mvp false [] (type_in m c.in-Ok-usable_local.ty ∷ []) (local_get_is c.args.local_index) c.in-Ok.ensures.begins
    (local_get_row m c.args.validator.now c.args.local_index (type_in m c.in-Ok-usable_local.ty) c.in-Ok-usable_local.ensures.usable
    (is_set c.is_uninit.result (initialised m c.args.validator.now.given c.args.validator.now.inits c.args.local_index) (c.is_uninit.ensures m) c.if-is_uninit.false))
