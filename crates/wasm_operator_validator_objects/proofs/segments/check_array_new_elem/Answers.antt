use Rattle.wasm_operators_enums.specs.declared.gc.GcOperator.TheVariants as gc
use Rattle.wasm_operator_validator_objects.proofs.Tables.{refused_row}
use Rattle.wasm_operator_validator_objects.proofs.Looking.{array_index}
use Rattle.wasm_operator_validator_objects.proofs.Storing.{new_elem_row, new_elem_nothing, new_elem_unknown, new_elem_unfit}
use Rattle.wasm_operator_validator_objects.proofs.segments.check_array_new_elem.Goals as goal

pub returns-in-Err-array_at : goal.returns-in-Err-array_at
returns-in-Err-array_at g c =
    let m = g.R.WasmModuleResources.meaning c.args.resources.now in
    let σ = c.args.validator.now in
    let x = c.args.type_index in
    refused_row _ m σ (gc.ArrayNewElem x c.args.elem_index) c.in-Ok.ensures (new_elem_nothing m σ x c.args.elem_index c.in-Err-array_at.ensures)

pub returns-in-Err-find_elements : goal.returns-in-Err-find_elements
returns-in-Err-find_elements g c =
    let m = g.R.WasmModuleResources.meaning c.args.resources.now in
    let σ = c.args.validator.now in
    let x = c.args.type_index in
    refused_row _ m σ (gc.ArrayNewElem x c.args.elem_index) c.in-Ok.ensures (new_elem_unknown m σ x c.args.elem_index c.in-Err-find_elements.ensures)

pub returns-then-not-may_hold : goal.returns-then-not-may_hold
returns-then-not-may_hold g c =
    let m = g.R.WasmModuleResources.meaning c.args.resources.now in
    let σ = c.args.validator.now in
    let x = c.args.type_index in
    refused_row _ m σ (gc.ArrayNewElem x c.args.elem_index) c.in-Ok.ensures (new_elem_unfit m σ x c.args.elem_index c.in-Ok-array_at.found c.in-Ok-find_elements.found c.may_hold.result c.in-Ok-array_at.ensures c.in-Ok-find_elements.ensures c.may_hold.ensures c.if-not-may_hold.true)

pub allocated-made-requires : goal.allocated-made-requires
allocated-made-requires g c =
    let m = g.R.WasmModuleResources.meaning c.args.resources.now in
    let σ = c.args.validator.now in
    let x = c.args.type_index in
    array_index m σ x c.in-Ok-array_at.found c.in-Ok-array_at.ensures

pub exchange-requires-clause-row : goal.exchange-requires-clause-row
exchange-requires-clause-row g c =
    let m = g.R.WasmModuleResources.meaning c.args.resources.now in
    let σ = c.args.validator.now in
    let x = c.args.type_index in
    new_elem_row m σ x c.args.elem_index c.in-Ok-array_at.found c.in-Ok-find_elements.found c.allocated-made.result c.in-Ok-array_at.ensures c.in-Ok-find_elements.ensures (c.may_hold.ensures.0 c.if-not-may_hold.false) c.allocated-made.ensures
