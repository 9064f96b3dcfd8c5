use Rattle.std.proofs.Common.{[], ◌∷◌}
use Rattle.wasm_operators_immediates.specs.declared.proposal.Proposal.TheVariants.{Mvp}
use Rattle.wasm_operators_enums.specs.Op as op
use Rattle.wasm_operator_validator_rules.specs.Accesses.{store}
use Rattle.wasm_operator_validator_state.specs.Refusals.{refused}
use Rattle.wasm_operator_validator_state.specs.State.{types_in}
use Rattle.wasm_operator_validator_stacks.specs.determined.laws.Determined.{not_begun, refused_here, undetermined, taken_only, determined}
use Rattle.wasm_operator_validator_memory.proofs.Accessing.{store_in_table, store_type, no_access}
use Rattle.wasm_operator_validator_memory.proofs.accesses.check_store.Goals as goal

pub returns-in-Err : goal.returns-in-Err
returns-in-Err g c =
    let m = g.R.WasmModuleResources.meaning c.args.resources.now in
    not_begun c.in-Err.refusal m c.args.validator.now (op.Memory c.args.op) Mvp c.args.floats (store_in_table c.args.op c.args.memarg.now c.args.floats c.args.ty.now c.requires).is c.in-Err.ensures.begins c.in-Err.ensures.stops

pub returns-in-Err-reach : goal.returns-in-Err-reach
returns-in-Err-reach g c =
    let m = g.R.WasmModuleResources.meaning c.args.resources.now in
    refused_here _ m c.args.validator.now (op.Memory c.args.op) Mvp c.args.floats c.in-Ok.ensures.begins
    (undetermined m c.args.validator.now (op.Memory c.args.op) Mvp c.args.floats (store_in_table c.args.op c.args.memarg.now c.args.floats c.args.ty.now c.requires) c.in-Ok.ensures.begins
    (no_access m c.args.validator.now store c.args.op c.args.memarg.now c.args.floats c.args.ty.now c.requires c.in-Err-reach.ensures))

pub returns : goal.returns
returns g c =
    let m = g.R.WasmModuleResources.meaning c.args.resources.now in
    determined (refused c.pop_operands.result) m c.args.validator.now c.pop_operands.new.self (op.Memory c.args.op) Mvp c.args.floats (c.in-Ok-reach.address ∷ c.args.ty.now ∷ []) []
    (store_in_table c.args.op c.args.memarg.now c.args.floats c.args.ty.now c.requires) c.in-Ok.ensures.begins
    (store_type m c.args.validator.now c.args.op c.args.memarg.now c.args.floats c.args.ty.now c.in-Ok-reach.address c.requires c.in-Ok-reach.ensures)
    (taken_only (refused c.pop_operands.result) m c.args.validator.now c.pop_operands.new.self (types_in m (c.in-Ok-reach.address ∷ c.args.ty.now ∷ [])) c.pop_operands.ensures.does) (record { given = c.pop_operands.ensures.given; failed = c.pop_operands.ensures.failed; saved = c.pop_operands.ensures.saved })
