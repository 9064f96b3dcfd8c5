use Rattle.std.proofs.Common.{[], ◌∷◌, false}
use Rattle.wasm_types.specs.trees.Types.{v128}
use Rattle.wasm_types.specs.values.declared.value.ValType.TheVariants as vals
use Rattle.wasm_operators_immediates.specs.declared.proposal.Proposal.TheVariants.{Simd}
use Rattle.wasm_operators_enums.specs.Op as op
use Rattle.wasm_operator_validator_rules.specs.Accesses.{store}
use Rattle.wasm_operator_validator_state.specs.Refusals.{refused}
use Rattle.wasm_operator_validator_state.specs.State.{types_in}
use Rattle.wasm_operator_validator_stacks.specs.determined.laws.Determined.{refused_here, undetermined, taken_only, determined}
use Rattle.wasm_operator_validator_vectors.proofs.Vectors.{access_on, store_type, no_access}
use Rattle.wasm_operator_validator_vectors.proofs.accesses.check_store.Goals as goal

pub returns-in-Err : goal.returns-in-Err
returns-in-Err g c =
    c.in-Err.ensures.stops (g.R.WasmModuleResources.meaning c.args.resources.now) (op.Simd c.args.op) (access_on c.args.op (store v128) c.args.memarg.now c.requires)

pub returns-in-Err-reach : goal.returns-in-Err-reach
returns-in-Err-reach g c =
    let m = g.R.WasmModuleResources.meaning c.args.resources.now in
    refused_here _ m c.args.validator.now (op.Simd c.args.op) Simd false c.in-Ok.ensures.begins.0
    (undetermined m c.args.validator.now (op.Simd c.args.op) Simd false (access_on c.args.op (store v128) c.args.memarg.now c.requires).table c.in-Ok.ensures.begins.0
    (no_access m c.args.validator.now c.args.op c.args.memarg.now c.in-Ok.ensures.begins.1 (store v128) c.requires c.in-Err-reach.ensures))

pub returns : goal.returns
returns g c =
    let m = g.R.WasmModuleResources.meaning c.args.resources.now in
    determined (refused c.pop_operands.result) m c.args.validator.now c.pop_operands.new.self (op.Simd c.args.op) Simd false (c.in-Ok-reach.address ∷ vals.V128 ∷ []) ([])
    (access_on c.args.op (store v128) c.args.memarg.now c.requires).table c.in-Ok.ensures.begins.0
    (store_type m c.args.validator.now c.args.op c.args.memarg.now c.in-Ok.ensures.begins.1 c.in-Ok-reach.address c.in-Ok-reach.ensures c.requires)
    (taken_only (refused c.pop_operands.result) m c.args.validator.now c.pop_operands.new.self (types_in m (c.in-Ok-reach.address ∷ vals.V128 ∷ [])) c.pop_operands.ensures.does) (record { given = c.pop_operands.ensures.given; failed = c.pop_operands.ensures.failed; saved = c.pop_operands.ensures.saved })
