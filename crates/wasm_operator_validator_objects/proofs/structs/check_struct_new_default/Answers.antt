use Rattle.std.proofs.Common.{[], ◌∷◌}
use Rattle.wasm_operators_enums.specs.declared.gc.GcOperator.TheVariants as gc
use Rattle.wasm_operator_validator_state.specs.State.{types_in}
use Rattle.wasm_operator_validator_rules.specs.Aggregates.{struct_named}
use Rattle.wasm_operator_validator_objects.specs.Rows.{here}
use Rattle.wasm_operator_validator_objects.proofs.Tables.{refused_typed, row_typed}
use Rattle.wasm_operator_validator_objects.proofs.Looking.{struct_index}
use Rattle.wasm_operator_validator_objects.proofs.Storing.{nothing_named, struct_default, struct_default_described, struct_no_default}
use Rattle.wasm_operator_validator_objects.proofs.structs.check_struct_new_default.Goals as goal

pub returns-in-Err-struct_at : goal.returns-in-Err-struct_at
returns-in-Err-struct_at g c =
    let m = g.R.WasmModuleResources.meaning c.args.resources.now in
    let σ = c.args.validator.now in
    let x = c.args.type_index in
    refused_typed _ m σ (gc.StructNewDefault x) (λ g popped pushed. (λ r. r, λ r. r)) c.in-Ok.ensures (nothing_named (struct_named (here m σ) x) _ c.in-Err-struct_at.ensures)

pub returns-then-described : goal.returns-then-described
returns-then-described g c =
    let m = g.R.WasmModuleResources.meaning c.args.resources.now in
    let σ = c.args.validator.now in
    let x = c.args.type_index in
    refused_typed _ m σ (gc.StructNewDefault x) (λ g popped pushed. (λ r. r, λ r. r)) c.in-Ok.ensures (struct_default_described m σ x c.in-Ok-struct_at.found.0.now c.in-Ok-struct_at.found.1 c.in-Ok-struct_at.ensures c.if-described.true)

pub returns-then-not-are_defaultable : goal.returns-then-not-are_defaultable
returns-then-not-are_defaultable g c =
    let m = g.R.WasmModuleResources.meaning c.args.resources.now in
    let σ = c.args.validator.now in
    let x = c.args.type_index in
    refused_typed _ m σ (gc.StructNewDefault x) (λ g popped pushed. (λ r. r, λ r. r)) c.in-Ok.ensures (struct_no_default m σ x c.in-Ok-struct_at.found.0.now c.in-Ok-struct_at.found.1 c.are_defaultable.result c.in-Ok-struct_at.ensures c.if-described.false c.are_defaultable.ensures c.if-not-are_defaultable.true)

pub allocated-made-requires : goal.allocated-made-requires
allocated-made-requires g c =
    let m = g.R.WasmModuleResources.meaning c.args.resources.now in
    let σ = c.args.validator.now in
    let x = c.args.type_index in
    struct_index m σ x c.in-Ok-struct_at.found.0.now c.in-Ok-struct_at.found.1 c.in-Ok-struct_at.ensures

pub exchange-requires-clause-row : goal.exchange-requires-clause-row
exchange-requires-clause-row g c =
    let m = g.R.WasmModuleResources.meaning c.args.resources.now in
    let σ = c.args.validator.now in
    let x = c.args.type_index in
    row_typed m σ (gc.StructNewDefault x) (types_in m []) (types_in m (c.allocated-made.result ∷ [])) (λ g popped pushed. (λ r. r, λ r. r)) (struct_default m σ x c.in-Ok-struct_at.found.0.now c.in-Ok-struct_at.found.1 c.are_defaultable.result c.allocated-made.result c.in-Ok-struct_at.ensures c.if-described.false c.are_defaultable.ensures c.if-not-are_defaultable.false c.allocated-made.ensures)
