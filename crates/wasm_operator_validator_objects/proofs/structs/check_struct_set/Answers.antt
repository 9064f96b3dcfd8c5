use Rattle.std.proofs.Common.{[], ◌∷◌}
use Rattle.wasm_operators_enums.specs.declared.gc.GcOperator.TheVariants as gc
use Rattle.wasm_operator_validator_state.specs.State.{types_in}
use Rattle.wasm_operator_validator_rules.specs.Places.{field_place}
use Rattle.wasm_operator_validator_rules.specs.InstructionTypes.{written}
use Rattle.wasm_operator_validator_objects.specs.Rows.{here}
use Rattle.wasm_operator_validator_objects.proofs.Tables.{refused_typed, row_typed}
use Rattle.wasm_operator_validator_objects.proofs.Storing.{nothing_named, place_written, place_unwritten}
use Rattle.wasm_operator_validator_objects.proofs.structs.check_struct_set.Goals as goal

pub returns-in-Err-field_at : goal.returns-in-Err-field_at
returns-in-Err-field_at g c =
    let m = g.R.WasmModuleResources.meaning c.args.resources.now in
    let σ = c.args.validator.now in
    let x = c.args.type_index in
    refused_typed _ m σ (gc.StructSet x c.args.field_index) (λ g popped pushed. (λ r. r, λ r. r)) c.in-Ok.ensures (nothing_named (field_place (here m σ) x c.args.field_index) written c.in-Err-field_at.ensures)

pub returns-then-not-field : goal.returns-then-not-field
returns-then-not-field g c =
    let m = g.R.WasmModuleResources.meaning c.args.resources.now in
    let σ = c.args.validator.now in
    let x = c.args.type_index in
    refused_typed _ m σ (gc.StructSet x c.args.field_index) (λ g popped pushed. (λ r. r, λ r. r)) c.in-Ok.ensures (place_unwritten m (field_place (here m σ) x c.args.field_index) (c.in-Ok-field_at.found.0 ∷ []) c.in-Ok-field_at.found.1 c.in-Ok-field_at.ensures c.if-not-field.true)

pub exchange-requires-clause-row : goal.exchange-requires-clause-row
exchange-requires-clause-row g c =
    let m = g.R.WasmModuleResources.meaning c.args.resources.now in
    let σ = c.args.validator.now in
    let x = c.args.type_index in
    row_typed m σ (gc.StructSet x c.args.field_index) (types_in m (c.in-Ok-field_at.found.0 ∷ c.unpack-written.result ∷ [])) (types_in m []) (λ g popped pushed. (λ r. r, λ r. r)) (rw c.unpack-written.ensures (place_written m (field_place (here m σ) x c.args.field_index) (c.in-Ok-field_at.found.0 ∷ []) c.in-Ok-field_at.found.1 c.in-Ok-field_at.ensures c.if-not-field.false))
