use Rattle.std.proofs.Common.{[], ◌∷◌}
use Rattle.wasm_types.specs.values.declared.value.ValType.TheVariants as vals
use Rattle.wasm_operator_validator_state.specs.State.{types_in}
use Rattle.wasm_operator_validator_rules.specs.Places.{element_place}
use Rattle.wasm_operator_validator_rules.specs.InstructionTypes.{named}
use Rattle.wasm_operator_validator_objects.specs.Rows.{here, reading}
use Rattle.wasm_operator_validator_stacks.specs.determined.laws.Usable.{fails}
use Rattle.wasm_operator_validator_objects.proofs.Tables.{refused_named, typed_row}
use Rattle.wasm_operator_validator_objects.proofs.Storing.{nothing_named, place_read, place_unread}
use Rattle.wasm_operator_validator_objects.proofs.arrays.check_array_get.Goals as goal

pub returns-in-Err-element_at : goal.returns-in-Err-element_at
returns-in-Err-element_at g c =
    let m = g.R.WasmModuleResources.meaning c.args.resources.now in
    let σ = c.args.validator.now in
    let x = c.args.type_index in
    refused_named _ m σ c.args.op (λ h. named (element_place h x) (reading c.args.packed)) c.requires c.in-Ok.ensures (nothing_named (element_place (here m σ) x) (reading c.args.packed) c.in-Err-element_at.ensures)

pub returns-then-not-is_read_so : goal.returns-then-not-is_read_so
returns-then-not-is_read_so g c =
    let m = g.R.WasmModuleResources.meaning c.args.resources.now in
    let σ = c.args.validator.now in
    let x = c.args.type_index in
    refused_named _ m σ c.args.op (λ h. named (element_place h x) (reading c.args.packed)) c.requires c.in-Ok.ensures (place_unread m (element_place (here m σ) x) (c.in-Ok-element_at.found.0 ∷ vals.I32 ∷ []) c.in-Ok-element_at.found.1 c.args.packed c.in-Ok-element_at.ensures (fails c.is_read_so.result c.is_read_so.ensures c.if-not-is_read_so.true))

pub exchange-requires-clause-row : goal.exchange-requires-clause-row
exchange-requires-clause-row g c =
    let m = g.R.WasmModuleResources.meaning c.args.resources.now in
    let σ = c.args.validator.now in
    let x = c.args.type_index in
    typed_row m σ c.args.op (λ h. named (element_place h x) (reading c.args.packed)) (types_in m (c.in-Ok-element_at.found.0 ∷ vals.I32 ∷ [])) (types_in m (c.unpack-read.result ∷ [])) c.requires (rw c.unpack-read.ensures (place_read m (element_place (here m σ) x) (c.in-Ok-element_at.found.0 ∷ vals.I32 ∷ []) c.in-Ok-element_at.found.1 c.args.packed c.in-Ok-element_at.ensures (c.is_read_so.ensures.0 c.if-not-is_read_so.false)))
