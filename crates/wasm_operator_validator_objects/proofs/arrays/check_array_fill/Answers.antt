use Rattle.std.proofs.Common.{[], ◌∷◌}
use Rattle.wasm_operators_enums.specs.declared.gc.GcOperator.TheVariants as gc
use Rattle.wasm_types.specs.values.declared.value.ValType.TheVariants as vals
use Rattle.wasm_operator_validator_state.specs.State.{types_in}
use Rattle.wasm_operator_validator_rules.specs.Aggregates.{array_named}
use Rattle.wasm_operator_validator_objects.specs.Rows.{here}
use Rattle.wasm_operator_validator_objects.proofs.Tables.{refused_typed, row_typed}
use Rattle.wasm_operator_validator_objects.proofs.Looking.{array_index}
use Rattle.wasm_operator_validator_objects.proofs.Storing.{nothing_named, array_fill, array_no_fill}
use Rattle.wasm_operator_validator_objects.proofs.arrays.check_array_fill.Goals as goal

pub returns-in-Err-array_at : goal.returns-in-Err-array_at
returns-in-Err-array_at g c =
    let m = g.R.WasmModuleResources.meaning c.args.resources.now in
    let σ = c.args.validator.now in
    let x = c.args.type_index in
    refused_typed _ m σ (gc.ArrayFill x) (λ g popped pushed. (λ r. r, λ r. r)) c.in-Ok.ensures (nothing_named (array_named (here m σ) x) _ c.in-Err-array_at.ensures)

pub reference_at-reference-requires : goal.reference_at-reference-requires
reference_at-reference-requires g c =
    let m = g.R.WasmModuleResources.meaning c.args.resources.now in
    let σ = c.args.validator.now in
    let x = c.args.type_index in
    array_index m σ x c.in-Ok-array_at.found c.in-Ok-array_at.ensures

pub returns-then-not-field : goal.returns-then-not-field
returns-then-not-field g c =
    let m = g.R.WasmModuleResources.meaning c.args.resources.now in
    let σ = c.args.validator.now in
    let x = c.args.type_index in
    refused_typed _ m σ (gc.ArrayFill x) (λ g popped pushed. (λ r. r, λ r. r)) c.in-Ok.ensures (array_no_fill m σ x c.in-Ok-array_at.found c.in-Ok-array_at.ensures c.if-not-field.true)

pub exchange-requires-clause-row : goal.exchange-requires-clause-row
exchange-requires-clause-row g c =
    let m = g.R.WasmModuleResources.meaning c.args.resources.now in
    let σ = c.args.validator.now in
    let x = c.args.type_index in
    row_typed m σ (gc.ArrayFill x) (types_in m (c.reference_at-reference.result ∷ vals.I32 ∷ c.unpack-element.result ∷ vals.I32 ∷ [])) (types_in m []) (λ g popped pushed. (λ r. r, λ r. r)) (rw c.unpack-element.ensures (array_fill m σ x c.in-Ok-array_at.found c.reference_at-reference.result c.in-Ok-array_at.ensures c.if-not-field.false c.reference_at-reference.ensures))
