use Rattle.std.proofs.Common.{[], ◌∷◌}
use Rattle.wasm_operators_enums.specs.declared.gc.GcOperator.TheVariants as gc
use Rattle.wasm_types.specs.values.declared.value.ValType.TheVariants as vals
use Rattle.wasm_operator_validator_state.specs.State.{types_in}
use Rattle.wasm_operator_validator_objects.proofs.Tables.{row_typed}
use Rattle.wasm_operator_validator_objects.proofs.Storing.{ref_i31}
use Rattle.wasm_operator_validator_objects.proofs.tests.check_ref_i31.Goals as goal

pub exchange-requires-clause-row : goal.exchange-requires-clause-row
exchange-requires-clause-row g c =
    let m = g.R.WasmModuleResources.meaning c.args.resources.now in
    row_typed m c.args.validator.now gc.RefI31 (types_in m (vals.I32 ∷ [])) (types_in m (c.abstract_reference-made.result ∷ [])) (λ g popped pushed. (λ r. r, λ r. r)) (ref_i31 m c.abstract_reference-made.result c.abstract_reference-made.ensures)
