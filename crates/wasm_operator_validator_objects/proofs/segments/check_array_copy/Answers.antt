use Rattle.wasm_operators_enums.specs.declared.gc.GcOperator.TheVariants as gc
use Rattle.wasm_operator_validator_objects.proofs.Tables.{refused_row}
use Rattle.wasm_operator_validator_objects.proofs.Looking.{array_index}
use Rattle.wasm_operator_validator_objects.proofs.Storing.{copy_row, copy_into_nothing, copy_of_nothing, copy_immutable, copy_unfit}
use Rattle.wasm_operator_validator_objects.proofs.segments.check_array_copy.Goals as goal

pub returns-in-Err-array_at : goal.returns-in-Err-array_at
returns-in-Err-array_at g c =
    let m = g.R.WasmModuleResources.meaning c.args.resources.now in
    let σ = c.args.validator.now in
    let x = c.args.dst_type_index in
    let y = c.args.src_type_index in
    refused_row _ m σ (gc.ArrayCopy x y) c.in-Ok.ensures (copy_into_nothing m σ x y c.in-Err-array_at.ensures)

pub returns-then-not-to : goal.returns-then-not-to
returns-then-not-to g c =
    let m = g.R.WasmModuleResources.meaning c.args.resources.now in
    let σ = c.args.validator.now in
    let x = c.args.dst_type_index in
    let y = c.args.src_type_index in
    refused_row _ m σ (gc.ArrayCopy x y) c.in-Ok.ensures (copy_immutable m σ x y c.in-Ok-array_at.found c.in-Ok-array_at.ensures c.if-not-to.true)

pub returns-in-Err-array_at-2 : goal.returns-in-Err-array_at-2
returns-in-Err-array_at-2 g c =
    let m = g.R.WasmModuleResources.meaning c.args.resources.now in
    let σ = c.args.validator.now in
    let x = c.args.dst_type_index in
    let y = c.args.src_type_index in
    refused_row _ m σ (gc.ArrayCopy x y) c.in-Ok.ensures (copy_of_nothing m σ x y c.in-Err-array_at-2.ensures)

pub returns-then-not-storage_fits : goal.returns-then-not-storage_fits
returns-then-not-storage_fits g c =
    let m = g.R.WasmModuleResources.meaning c.args.resources.now in
    let σ = c.args.validator.now in
    let x = c.args.dst_type_index in
    let y = c.args.src_type_index in
    refused_row _ m σ (gc.ArrayCopy x y) c.in-Ok.ensures (copy_unfit m σ x y c.in-Ok-array_at.found c.in-Ok-array_at-2.found c.storage_fits.result c.in-Ok-array_at.ensures c.in-Ok-array_at-2.ensures c.storage_fits.ensures c.if-not-storage_fits.true)

pub reference_at-into-requires : goal.reference_at-into-requires
reference_at-into-requires g c =
    let m = g.R.WasmModuleResources.meaning c.args.resources.now in
    let σ = c.args.validator.now in
    let x = c.args.dst_type_index in
    let y = c.args.src_type_index in
    array_index m σ x c.in-Ok-array_at.found c.in-Ok-array_at.ensures

pub reference_at-out_of-requires : goal.reference_at-out_of-requires
reference_at-out_of-requires g c =
    let m = g.R.WasmModuleResources.meaning c.args.resources.now in
    let σ = c.args.validator.now in
    let x = c.args.dst_type_index in
    let y = c.args.src_type_index in
    array_index m σ y c.in-Ok-array_at-2.found c.in-Ok-array_at-2.ensures

pub exchange-requires-clause-row : goal.exchange-requires-clause-row
exchange-requires-clause-row g c =
    let m = g.R.WasmModuleResources.meaning c.args.resources.now in
    let σ = c.args.validator.now in
    let x = c.args.dst_type_index in
    let y = c.args.src_type_index in
    copy_row m σ x y c.in-Ok-array_at.found c.in-Ok-array_at-2.found c.reference_at-into.result c.reference_at-out_of.result c.in-Ok-array_at.ensures c.if-not-to.false c.in-Ok-array_at-2.ensures (c.storage_fits.ensures.0 c.if-not-storage_fits.false) c.reference_at-into.ensures c.reference_at-out_of.ensures
