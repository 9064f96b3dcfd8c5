use Rattle.std.proofs.Common.{[], ◌∷◌, false}
use Rattle.wasm_types.specs.trees.Types.{v128}
use Rattle.wasm_types.specs.values.declared.value.ValType.TheVariants as vals
use Rattle.wasm_operators_immediates.specs.declared.proposal.Proposal.TheVariants.{Simd}
use Rattle.wasm_operators_enums.specs.Op as op
use Rattle.wasm_operator_validator_rules.specs.Accesses.{load}
use Rattle.wasm_operator_validator_state.specs.Refusals.{refused}
use Rattle.wasm_operator_validator_stacks.specs.determined.laws.Determined.{refused_here, undetermined, determined}
use Rattle.wasm_operator_validator_vectors.proofs.Vectors.{access_on, load_type, no_access}
use Rattle.wasm_operator_validator_vectors.proofs.accesses.check_load.Goals as goal

pub returns-in-Err : goal.returns-in-Err
returns-in-Err g c =
    c.in-Err.ensures.stops (g.R.WasmModuleResources.meaning c.args.resources.now) (op.Simd c.args.op) (access_on c.args.op (load v128) c.args.memarg.now c.requires)

pub returns-in-Err-reach : goal.returns-in-Err-reach
returns-in-Err-reach g c =
    let m = g.R.WasmModuleResources.meaning c.args.resources.now in
    refused_here _ m c.args.validator.now (op.Simd c.args.op) Simd false c.in-Ok.ensures.begins.0
    (undetermined m c.args.validator.now (op.Simd c.args.op) Simd false (access_on c.args.op (load v128) c.args.memarg.now c.requires).table c.in-Ok.ensures.begins.0
    (no_access m c.args.validator.now c.args.op c.args.memarg.now c.in-Ok.ensures.begins.1 (load v128) c.requires c.in-Err-reach.ensures))

pub returns : goal.returns
returns g c =
    let m = g.R.WasmModuleResources.meaning c.args.resources.now in
    determined (refused c.exchange.result) m c.args.validator.now c.exchange.new.self (op.Simd c.args.op) Simd false (c.in-Ok-reach.address ∷ []) (vals.V128 ∷ [])
    (access_on c.args.op (load v128) c.args.memarg.now c.requires).table c.in-Ok.ensures.begins.0
    (load_type m c.args.validator.now c.args.op c.args.memarg.now c.in-Ok.ensures.begins.1 c.in-Ok-reach.address c.in-Ok-reach.ensures c.requires)
    c.exchange.ensures.does (record { given = c.exchange.ensures.given; failed = c.exchange.ensures.failed; saved = c.exchange.ensures.saved })
