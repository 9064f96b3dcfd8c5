use Rattle.std.proofs.Common.{[], ◌∷◌, false, refl}
use Rattle.wasm_types.specs.values.declared.value.ValType.TheVariants as vals
use Rattle.wasm_operators_immediates.specs.declared.proposal.Proposal.TheVariants.{BulkMemory}
use Rattle.wasm_operators_enums.specs.declared.bulk.BulkOperator.TheVariants as bulk
use Rattle.wasm_operators_enums.specs.Op as op
use Rattle.wasm_operator_validator_state.specs.Refusals.{refused}
use Rattle.wasm_operator_validator_state.specs.State.{types_in}
use Rattle.wasm_operator_validator_stacks.specs.determined.laws.Determined.{not_begun, refused_here, no_row, taken_only, by_types}
use Rattle.wasm_operator_validator_memory.proofs.Indexing.{is_bulk}
use Rattle.wasm_operator_validator_memory.proofs.Copying.{init_row, init_nowhere, init_from_nothing, init_unfit}
use Rattle.wasm_operator_validator_memory.proofs.copies.check_table_init.Goals as goal

pub returns-in-Err : goal.returns-in-Err
returns-in-Err g c =
    let m = g.R.WasmModuleResources.meaning c.args.resources.now in
    not_begun c.in-Err.refusal m c.args.validator.now (op.Bulk (bulk.TableInit c.args.elem_index c.args.table)) BulkMemory false (is_bulk (bulk.TableInit c.args.elem_index c.args.table)) c.in-Err.ensures.begins c.in-Err.ensures.stops

pub returns-in-Err-usable_table : goal.returns-in-Err-usable_table
returns-in-Err-usable_table g c =
    let m = g.R.WasmModuleResources.meaning c.args.resources.now in
    refused_here _ m c.args.validator.now (op.Bulk (bulk.TableInit c.args.elem_index c.args.table)) BulkMemory false c.in-Ok.ensures.begins
    (no_row m c.args.validator.now (op.Bulk (bulk.TableInit c.args.elem_index c.args.table)) BulkMemory false (is_bulk (bulk.TableInit c.args.elem_index c.args.table)) c.in-Ok.ensures.begins
    (init_nowhere m c.args.validator.now c.args.elem_index c.args.table c.in-Err-usable_table.ensures))

pub returns-in-Err-find_elements : goal.returns-in-Err-find_elements
returns-in-Err-find_elements g c =
    let m = g.R.WasmModuleResources.meaning c.args.resources.now in
    refused_here _ m c.args.validator.now (op.Bulk (bulk.TableInit c.args.elem_index c.args.table)) BulkMemory false c.in-Ok.ensures.begins
    (no_row m c.args.validator.now (op.Bulk (bulk.TableInit c.args.elem_index c.args.table)) BulkMemory false (is_bulk (bulk.TableInit c.args.elem_index c.args.table)) c.in-Ok.ensures.begins
    (init_from_nothing m c.args.validator.now c.args.elem_index c.args.table c.in-Err-find_elements.ensures.found))

pub returns-then-not-fits : goal.returns-then-not-fits
returns-then-not-fits g c =
    let m = g.R.WasmModuleResources.meaning c.args.resources.now in
    refused_here _ m c.args.validator.now (op.Bulk (bulk.TableInit c.args.elem_index c.args.table)) BulkMemory false c.in-Ok.ensures.begins
    (no_row m c.args.validator.now (op.Bulk (bulk.TableInit c.args.elem_index c.args.table)) BulkMemory false (is_bulk (bulk.TableInit c.args.elem_index c.args.table)) c.in-Ok.ensures.begins
    (init_unfit m c.args.validator.now c.args.elem_index c.args.table c.in-Ok-usable_table.to c.in-Ok-find_elements.segment c.is_subtype-fits.result c.in-Ok-usable_table.ensures c.in-Ok-find_elements.ensures.found
    c.is_subtype-fits.ensures c.if-not-fits.true))

pub returns : goal.returns
returns g c =
    let m = g.R.WasmModuleResources.meaning c.args.resources.now in
    by_types (refused c.pop_operands.result) m c.args.validator.now c.pop_operands.new.self (op.Bulk (bulk.TableInit c.args.elem_index c.args.table)) BulkMemory false (types_in m (c.index_type.result ∷ vals.I32 ∷ vals.I32 ∷ [])) (types_in m [])
    (is_bulk (bulk.TableInit c.args.elem_index c.args.table)) c.in-Ok.ensures.begins (λ set. refl)
    (init_row m c.args.validator.now c.args.elem_index c.args.table c.in-Ok-usable_table.to c.in-Ok-find_elements.segment c.index_type.result c.in-Ok-usable_table.ensures c.in-Ok-find_elements.ensures.found
    (c.is_subtype-fits.ensures.0 c.if-not-fits.false) c.index_type.ensures)
    (taken_only (refused c.pop_operands.result) m c.args.validator.now c.pop_operands.new.self (types_in m (c.index_type.result ∷ vals.I32 ∷ vals.I32 ∷ [])) c.pop_operands.ensures.does) (record { given = c.pop_operands.ensures.given; failed = c.pop_operands.ensures.failed; saved = c.pop_operands.ensures.saved })
