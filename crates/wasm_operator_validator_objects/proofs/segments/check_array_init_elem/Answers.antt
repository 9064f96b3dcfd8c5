use Rattle.wasm_operators_enums.specs.declared.gc.GcOperator.TheVariants as gc
use Rattle.wasm_operator_validator_objects.proofs.Tables.{refused_row}
use Rattle.wasm_operator_validator_objects.proofs.Looking.{array_index}
use Rattle.wasm_operator_validator_objects.proofs.Storing.{init_elem_row, init_elem_nothing, init_elem_immutable, init_elem_unknown, init_elem_unfit}
use Rattle.wasm_operator_validator_objects.proofs.segments.check_array_init_elem.Goals as goal

pub returns-in-Err-array_at : goal.returns-in-Err-array_at
returns-in-Err-array_at g c =
    let m = g.R.WasmModuleResources.meaning c.args.resources.now in
    let σ = c.args.validator.now in
    let x = c.args.type_index in
    refused_row _ m σ (gc.ArrayInitElem x c.args.elem_index) c.in-Ok.ensures (init_elem_nothing m σ x c.args.elem_index c.in-Err-array_at.ensures)

pub returns-then-not-field : goal.returns-then-not-field
returns-then-not-field g c =
    let m = g.R.WasmModuleResources.meaning c.args.resources.now in
    let σ = c.args.validator.now in
    let x = c.args.type_index in
    refused_row _ m σ (gc.ArrayInitElem x c.args.elem_index) c.in-Ok.ensures (init_elem_immutable m σ x c.args.elem_index c.in-Ok-array_at.found c.in-Ok-array_at.ensures c.if-not-field.true)

pub returns-in-Err-find_elements : goal.returns-in-Err-find_elements
returns-in-Err-find_elements g c =
    let m = g.R.WasmModuleResources.meaning c.args.resources.now in
    let σ = c.args.validator.now in
    let x = c.args.type_index in
    refused_row _ m σ (gc.ArrayInitElem x c.args.elem_index) c.in-Ok.ensures (init_elem_unknown m σ x c.args.elem_index c.in-Err-find_elements.ensures)

pub returns-then-not-may_hold : goal.returns-then-not-may_hold
returns-then-not-may_hold g c =
    let m = g.R.WasmModuleResources.meaning c.args.resources.now in
    let σ = c.args.validator.now in
    let x = c.args.type_index in
    refused_row _ m σ (gc.ArrayInitElem x c.args.elem_index) c.in-Ok.ensures (init_elem_unfit m σ x c.args.elem_index c.in-Ok-array_at.found c.in-Ok-find_elements.found c.may_hold.result c.in-Ok-array_at.ensures c.in-Ok-find_elements.ensures c.may_hold.ensures c.if-not-may_hold.true)

pub reference_at-reference-requires : goal.reference_at-reference-requires
reference_at-reference-requires g c =
    let m = g.R.WasmModuleResources.meaning c.args.resources.now in
    let σ = c.args.validator.now in
    let x = c.args.type_index in
    array_index m σ x c.in-Ok-array_at.found c.in-Ok-array_at.ensures

pub exchange-requires-clause-row : goal.exchange-requires-clause-row
exchange-requires-clause-row g c =
    let m = g.R.WasmModuleResources.meaning c.args.resources.now in
    let σ = c.args.validator.now in
    let x = c.args.type_index in
    init_elem_row m σ x c.args.elem_index c.in-Ok-array_at.found c.in-Ok-find_elements.found c.reference_at-reference.result c.in-Ok-array_at.ensures c.if-not-field.false c.in-Ok-find_elements.ensures (c.may_hold.ensures.0 c.if-not-may_hold.false) c.reference_at-reference.ensures
