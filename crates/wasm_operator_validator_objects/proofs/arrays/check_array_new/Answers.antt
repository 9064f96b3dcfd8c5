use Rattle.std.proofs.Common.{[], ◌∷◌}
use Rattle.wasm_operators_enums.specs.declared.gc.GcOperator.TheVariants as gc
use Rattle.wasm_types.specs.values.declared.value.ValType.TheVariants as vals
use Rattle.wasm_operator_validator_state.specs.State.{types_in}
use Rattle.wasm_operator_validator_rules.specs.Aggregates.{array_named}
use Rattle.wasm_operator_validator_objects.specs.Rows.{here}
use Rattle.wasm_operator_validator_objects.proofs.Tables.{refused_typed, row_typed}
use Rattle.wasm_operator_validator_objects.proofs.Looking.{array_index}
use Rattle.wasm_operator_validator_objects.proofs.Storing.{nothing_named, array_new}
use Rattle.wasm_operator_validator_objects.proofs.arrays.check_array_new.Goals as goal

pub returns-in-Err-array_at : goal.returns-in-Err-array_at
returns-in-Err-array_at g c =
    let m = g.R.WasmModuleResources.meaning c.args.resources.now in
    let σ = c.args.validator.now in
    let x = c.args.type_index in
    refused_typed _ m σ (gc.ArrayNew x) (λ g popped pushed. (λ r. r, λ r. r)) c.in-Ok.ensures (nothing_named (array_named (here m σ) x) _ c.in-Err-array_at.ensures)

pub allocated-made-requires : goal.allocated-made-requires
allocated-made-requires g c =
    let m = g.R.WasmModuleResources.meaning c.args.resources.now in
    let σ = c.args.validator.now in
    let x = c.args.type_index in
    array_index m σ x c.in-Ok-array_at.found c.in-Ok-array_at.ensures

pub exchange-requires-clause-row : goal.exchange-requires-clause-row
exchange-requires-clause-row g c =
    let m = g.R.WasmModuleResources.meaning c.args.resources.now in
    let σ = c.args.validator.now in
    let x = c.args.type_index in
    row_typed m σ (gc.ArrayNew x) (types_in m (c.unpack-element.result ∷ vals.I32 ∷ [])) (types_in m (c.allocated-made.result ∷ [])) (λ g popped pushed. (λ r. r, λ r. r)) (rw c.unpack-element.ensures (array_new m σ x c.in-Ok-array_at.found c.allocated-made.result c.in-Ok-array_at.ensures c.allocated-made.ensures))
