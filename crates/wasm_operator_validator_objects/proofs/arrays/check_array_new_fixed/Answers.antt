use Rattle.std.proofs.Common.{[], ◌∷◌, replicate}
use Rattle.wasm_operators_enums.specs.declared.gc.GcOperator.TheVariants as gc
use Rattle.wasm_operator_validator_state.specs.State.{types_in}
use Rattle.wasm_operator_validator_resources.specs.Meaning.{type_in}
use Rattle.wasm_operator_validator_rules.specs.Aggregates.{array_named}
use Rattle.wasm_operator_validator_objects.specs.Rows.{here}
use Rattle.wasm_operator_validator_objects.proofs.Tables.{refused_typed, row_typed}
use Rattle.wasm_operator_validator_objects.proofs.Looking.{array_index}
use Rattle.wasm_operator_validator_objects.proofs.Storing.{nothing_named, array_fixed}
use Rattle.wasm_operator_validator_objects.proofs.arrays.check_array_new_fixed.Goals as goal

pub returns-in-Err-array_at : goal.returns-in-Err-array_at
returns-in-Err-array_at g c =
    let m = g.R.WasmModuleResources.meaning c.args.resources.now in
    let σ = c.args.validator.now in
    let x = c.args.type_index in
    refused_typed _ m σ (gc.ArrayNewFixed x c.args.count) (λ g popped pushed. (λ r. r, λ r. r)) c.in-Ok.ensures (nothing_named (array_named (here m σ) x) _ c.in-Err-array_at.ensures)

pub allocated-made-requires : goal.allocated-made-requires
allocated-made-requires g c =
    let m = g.R.WasmModuleResources.meaning c.args.resources.now in
    let σ = c.args.validator.now in
    let x = c.args.type_index in
    array_index m σ x c.in-Ok-array_at.found c.in-Ok-array_at.ensures

pub make-requires-clause-row : goal.make-requires-clause-row
make-requires-clause-row g c =
    let m = g.R.WasmModuleResources.meaning c.args.resources.now in
    let σ = c.args.validator.now in
    let x = c.args.type_index in
    row_typed m σ (gc.ArrayNewFixed x c.args.count) (replicate c.args.count (type_in m c.unpack-element.result)) (types_in m (c.allocated-made.result ∷ [])) (λ g popped pushed. (λ r. r, λ r. r)) (rw c.unpack-element.ensures (array_fixed m σ x c.args.count c.in-Ok-array_at.found c.allocated-made.result c.in-Ok-array_at.ensures c.allocated-made.ensures))
