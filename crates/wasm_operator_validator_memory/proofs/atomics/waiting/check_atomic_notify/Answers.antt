use Rattle.std.proofs.Common.{[], ◌∷◌, false}
use Rattle.wasm_types.specs.values.declared.value.ValType.TheVariants as vals
use Rattle.wasm_operators_immediates.specs.declared.proposal.Proposal.TheVariants.{Threads}
use Rattle.wasm_operators_enums.specs.declared.atomic.AtomicOperator.TheVariants as atomic
use Rattle.wasm_operators_enums.specs.Op as op
use Rattle.wasm_operator_validator_state.specs.Refusals.{refused}
use Rattle.wasm_operator_validator_stacks.specs.determined.laws.Determined.{not_begun, refused_here, undetermined, determined}
use Rattle.wasm_operator_validator_memory.proofs.Atomic.{in_table, notify_type, no_notify}
use Rattle.wasm_operator_validator_memory.proofs.atomics.waiting.check_atomic_notify.Goals as goal

pub returns-in-Err : goal.returns-in-Err
returns-in-Err g c =
    let m = g.R.WasmModuleResources.meaning c.args.resources.now in
    not_begun c.in-Err.refusal m c.args.validator.now (op.Atomic (atomic.MemoryAtomicNotify c.args.memarg)) Threads false (in_table (atomic.MemoryAtomicNotify c.args.memarg)).is c.in-Err.ensures.begins c.in-Err.ensures.stops

pub returns-in-Err-reach_atomic : goal.returns-in-Err-reach_atomic
returns-in-Err-reach_atomic g c =
    let m = g.R.WasmModuleResources.meaning c.args.resources.now in
    refused_here _ m c.args.validator.now (op.Atomic (atomic.MemoryAtomicNotify c.args.memarg)) Threads false c.in-Ok.ensures.begins
    (undetermined m c.args.validator.now (op.Atomic (atomic.MemoryAtomicNotify c.args.memarg)) Threads false (in_table (atomic.MemoryAtomicNotify c.args.memarg)) c.in-Ok.ensures.begins (no_notify m c.args.validator.now c.args.memarg c.in-Err-reach_atomic.ensures))

pub returns : goal.returns
returns g c =
    let m = g.R.WasmModuleResources.meaning c.args.resources.now in
    determined (refused c.exchange.result) m c.args.validator.now c.exchange.new.self (op.Atomic (atomic.MemoryAtomicNotify c.args.memarg)) Threads false (c.in-Ok-reach_atomic.address ∷ vals.I32 ∷ []) (vals.I32 ∷ []) (in_table (atomic.MemoryAtomicNotify c.args.memarg)) c.in-Ok.ensures.begins
    (notify_type m c.args.validator.now c.args.memarg c.in-Ok-reach_atomic.address c.in-Ok-reach_atomic.ensures) c.exchange.ensures.does
    (record { given = c.exchange.ensures.given; failed = c.exchange.ensures.failed; saved = c.exchange.ensures.saved })
