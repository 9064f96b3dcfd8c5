use Rattle.std.proofs.Common.{[], ◌∷◌}
use Rattle.wasm_operators_enums.specs.declared.gc.GcOperator.TheVariants as gc
use Rattle.wasm_types.specs.values.declared.value.ValType.TheVariants as vals
use Rattle.wasm_operator_validator_state.specs.State.{types_in}
use Rattle.wasm_operator_validator_rules.specs.Aggregates.{array_named}
use Rattle.wasm_operator_validator_objects.specs.Rows.{here}
use Rattle.wasm_operator_validator_objects.proofs.Tables.{refused_typed, row_typed}
use Rattle.wasm_operator_validator_objects.proofs.Looking.{array_index}
use Rattle.wasm_operator_validator_objects.proofs.Storing.{nothing_named, init_data, init_data_immutable, init_data_references, init_data_unknown}
use Rattle.wasm_operator_validator_objects.proofs.segments.check_array_init_data.Goals as goal

pub returns-in-Err-array_at : goal.returns-in-Err-array_at
returns-in-Err-array_at g c =
    let m = g.R.WasmModuleResources.meaning c.args.resources.now in
    let σ = c.args.validator.now in
    let x = c.args.type_index in
    refused_typed _ m σ (gc.ArrayInitData x c.args.data_index) (λ g popped pushed. (λ r. r, λ r. r)) c.in-Ok.ensures (nothing_named (array_named (here m σ) x) _ c.in-Err-array_at.ensures)

pub returns-then-not-field : goal.returns-then-not-field
returns-then-not-field g c =
    let m = g.R.WasmModuleResources.meaning c.args.resources.now in
    let σ = c.args.validator.now in
    let x = c.args.type_index in
    refused_typed _ m σ (gc.ArrayInitData x c.args.data_index) (λ g popped pushed. (λ r. r, λ r. r)) c.in-Ok.ensures (init_data_immutable m σ x c.args.data_index c.in-Ok-array_at.found c.in-Ok-array_at.ensures c.if-not-field.true)

pub returns-then-is_of_references : goal.returns-then-is_of_references
returns-then-is_of_references g c =
    let m = g.R.WasmModuleResources.meaning c.args.resources.now in
    let σ = c.args.validator.now in
    let x = c.args.type_index in
    refused_typed _ m σ (gc.ArrayInitData x c.args.data_index) (λ g popped pushed. (λ r. r, λ r. r)) c.in-Ok.ensures (init_data_references m σ x c.args.data_index c.in-Ok-array_at.found c.is_of_references.result c.in-Ok-array_at.ensures c.if-not-field.false c.is_of_references.ensures c.if-is_of_references.true)

pub returns-in-Err-find_data : goal.returns-in-Err-find_data
returns-in-Err-find_data g c =
    let m = g.R.WasmModuleResources.meaning c.args.resources.now in
    let σ = c.args.validator.now in
    let x = c.args.type_index in
    refused_typed _ m σ (gc.ArrayInitData x c.args.data_index) (λ g popped pushed. (λ r. r, λ r. r)) c.in-Ok.ensures (init_data_unknown m σ x c.args.data_index c.in-Ok-array_at.found c.is_of_references.result c.in-Ok-array_at.ensures c.if-not-field.false c.is_of_references.ensures c.if-is_of_references.false c.in-Err-find_data.ensures)

pub reference_at-reference-requires : goal.reference_at-reference-requires
reference_at-reference-requires g c =
    let m = g.R.WasmModuleResources.meaning c.args.resources.now in
    let σ = c.args.validator.now in
    let x = c.args.type_index in
    array_index m σ x c.in-Ok-array_at.found c.in-Ok-array_at.ensures

pub exchange-requires-clause-row : goal.exchange-requires-clause-row
exchange-requires-clause-row g c =
    let m = g.R.WasmModuleResources.meaning c.args.resources.now in
    let σ = c.args.validator.now in
    let x = c.args.type_index in
    row_typed m σ (gc.ArrayInitData x c.args.data_index) (types_in m (c.reference_at-reference.result ∷ vals.I32 ∷ vals.I32 ∷ vals.I32 ∷ [])) (types_in m []) (λ g popped pushed. (λ r. r, λ r. r)) (init_data m σ x c.args.data_index c.in-Ok-array_at.found c.is_of_references.result c.reference_at-reference.result c.in-Ok-array_at.ensures c.if-not-field.false c.is_of_references.ensures c.if-is_of_references.false c.in-Ok-find_data.ensures c.reference_at-reference.ensures)
