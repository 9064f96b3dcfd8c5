use Rattle.std.proofs.Common.{[], ◌∷◌}
use Rattle.wasm_types.specs.values.declared.value.ValType.TheVariants as vals
use Rattle.wasm_operator_validator_resources.specs.Meaning.{heap_in}
use Rattle.wasm_operator_validator_state.specs.State.{types_in}
use Rattle.wasm_operator_validator_rules.specs.InstructionTypes.{cast_at, i32_type}
use Rattle.wasm_operator_validator_objects.proofs.Tables.{refused_named, typed_row}
use Rattle.wasm_operator_validator_objects.proofs.Storing.{cast_unnamed, cast_of_continuation, test_type}
use Rattle.wasm_operator_validator_objects.proofs.tests.check_ref_test.Goals as goal

pub returns-in-Err-heap_at : goal.returns-in-Err-heap_at
returns-in-Err-heap_at g c =
    let m = g.R.WasmModuleResources.meaning c.args.resources.now in
    refused_named _ m c.args.validator.now c.args.op (λ h. cast_at h c.args.heap_type.now (λ k. i32_type)) c.requires c.in-Ok.ensures (cast_unnamed m c.args.validator.now c.args.heap_type.now (λ k. i32_type) c.in-Err-heap_at.ensures)

pub returns-in-None : goal.returns-in-None
returns-in-None g c =
    let m = g.R.WasmModuleResources.meaning c.args.resources.now in
    refused_named _ m c.args.validator.now c.args.op (λ h. cast_at h c.args.heap_type.now (λ k. i32_type)) c.requires c.in-Ok.ensures (cast_of_continuation m c.args.validator.now c.args.heap_type.now (heap_in m c.in-Ok-heap_at.named.heap) (λ k. i32_type) c.in-Ok-heap_at.ensures.1 c.in-None.ensures)

pub exchange-requires-clause-row : goal.exchange-requires-clause-row
exchange-requires-clause-row g c =
    let m = g.R.WasmModuleResources.meaning c.args.resources.now in
    typed_row m c.args.validator.now c.args.op (λ h. cast_at h c.args.heap_type.now (λ k. i32_type)) (types_in m (c.in-Some.top ∷ [])) (types_in m (vals.I32 ∷ [])) c.requires (test_type m c.args.validator.now c.args.heap_type.now (heap_in m c.in-Ok-heap_at.named.heap) c.in-Some.top c.in-Ok-heap_at.ensures.1 c.in-Some.ensures)
