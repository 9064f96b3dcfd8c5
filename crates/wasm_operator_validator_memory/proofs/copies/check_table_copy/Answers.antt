use Rattle.std.proofs.Common.{[], ◌∷◌, false, refl}
use Rattle.wasm_operators_immediates.specs.declared.proposal.Proposal.TheVariants.{BulkMemory}
use Rattle.wasm_operators_enums.specs.declared.bulk.BulkOperator.TheVariants as bulk
use Rattle.wasm_operators_enums.specs.Op as op
use Rattle.wasm_operator_validator_state.specs.Refusals.{refused}
use Rattle.wasm_operator_validator_state.specs.State.{types_in}
use Rattle.wasm_operator_validator_stacks.specs.determined.laws.Determined.{not_begun, refused_here, no_row, taken_only, by_types}
use Rattle.wasm_operator_validator_memory.proofs.Indexing.{is_bulk}
use Rattle.wasm_operator_validator_memory.proofs.Copying.{copy_row, copy_from_nowhere, copy_to_nowhere, copy_unfit}
use Rattle.wasm_operator_validator_memory.proofs.copies.check_table_copy.Goals as goal

pub returns-in-Err : goal.returns-in-Err
returns-in-Err g c =
    let m = g.R.WasmModuleResources.meaning c.args.resources.now in
    not_begun c.in-Err.refusal m c.args.validator.now (op.Bulk (bulk.TableCopy c.args.dst_table c.args.src_table)) BulkMemory false (is_bulk (bulk.TableCopy c.args.dst_table c.args.src_table)) c.in-Err.ensures.begins c.in-Err.ensures.stops

pub returns-in-Err-usable_table : goal.returns-in-Err-usable_table
returns-in-Err-usable_table g c =
    let m = g.R.WasmModuleResources.meaning c.args.resources.now in
    refused_here _ m c.args.validator.now (op.Bulk (bulk.TableCopy c.args.dst_table c.args.src_table)) BulkMemory false c.in-Ok.ensures.begins
    (no_row m c.args.validator.now (op.Bulk (bulk.TableCopy c.args.dst_table c.args.src_table)) BulkMemory false (is_bulk (bulk.TableCopy c.args.dst_table c.args.src_table)) c.in-Ok.ensures.begins
    (copy_from_nowhere m c.args.validator.now c.args.dst_table c.args.src_table c.in-Err-usable_table.ensures))

pub returns-in-Err-usable_table-2 : goal.returns-in-Err-usable_table-2
returns-in-Err-usable_table-2 g c =
    let m = g.R.WasmModuleResources.meaning c.args.resources.now in
    refused_here _ m c.args.validator.now (op.Bulk (bulk.TableCopy c.args.dst_table c.args.src_table)) BulkMemory false c.in-Ok.ensures.begins
    (no_row m c.args.validator.now (op.Bulk (bulk.TableCopy c.args.dst_table c.args.src_table)) BulkMemory false (is_bulk (bulk.TableCopy c.args.dst_table c.args.src_table)) c.in-Ok.ensures.begins
    (copy_to_nowhere m c.args.validator.now c.args.dst_table c.args.src_table c.in-Err-usable_table-2.ensures))

pub returns-then-not-fits : goal.returns-then-not-fits
returns-then-not-fits g c =
    let m = g.R.WasmModuleResources.meaning c.args.resources.now in
    refused_here _ m c.args.validator.now (op.Bulk (bulk.TableCopy c.args.dst_table c.args.src_table)) BulkMemory false c.in-Ok.ensures.begins
    (no_row m c.args.validator.now (op.Bulk (bulk.TableCopy c.args.dst_table c.args.src_table)) BulkMemory false (is_bulk (bulk.TableCopy c.args.dst_table c.args.src_table)) c.in-Ok.ensures.begins
    (copy_unfit m c.args.validator.now c.args.dst_table c.args.src_table c.in-Ok-usable_table-2.to c.in-Ok-usable_table.from c.is_subtype-fits.result c.in-Ok-usable_table-2.ensures c.in-Ok-usable_table.ensures
    c.is_subtype-fits.ensures c.if-not-fits.true))

pub returns : goal.returns
returns g c =
    let m = g.R.WasmModuleResources.meaning c.args.resources.now in
    by_types (refused c.pop_operands.result) m c.args.validator.now c.pop_operands.new.self (op.Bulk (bulk.TableCopy c.args.dst_table c.args.src_table)) BulkMemory false (types_in m (c.index_type.result ∷ c.index_type-2.result ∷ c.length_type.result ∷ [])) (types_in m [])
    (is_bulk (bulk.TableCopy c.args.dst_table c.args.src_table)) c.in-Ok.ensures.begins (λ set. refl)
    (copy_row m c.args.validator.now c.args.dst_table c.args.src_table c.in-Ok-usable_table-2.to c.in-Ok-usable_table.from c.index_type.result c.index_type-2.result c.length_type.result c.in-Ok-usable_table-2.ensures
    c.in-Ok-usable_table.ensures (c.is_subtype-fits.ensures.0 c.if-not-fits.false) c.index_type.ensures c.index_type-2.ensures c.length_type.ensures)
    (taken_only (refused c.pop_operands.result) m c.args.validator.now c.pop_operands.new.self (types_in m (c.index_type.result ∷ c.index_type-2.result ∷ c.length_type.result ∷ [])) c.pop_operands.ensures.does) (record { given = c.pop_operands.ensures.given; failed = c.pop_operands.ensures.failed; saved = c.pop_operands.ensures.saved })
