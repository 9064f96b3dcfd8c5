use Rattle.std.proofs.Common.{◌∙◌, ap, Some, arith}
use Rattle.wasm_module_validator_rows.proofs.Taking.{ids_counted, row_of_id, row_past_ids}
use Rattle.wasm_module_validator_rows.proofs.writing.id_at.Goals as goal

pub returns-then-index-core_type_count_in_module : goal.returns-then-index-core_type_count_in_module
returns-then-index-core_type_count_in_module c =
    let s = c.args.types.now.spaces in
    let sum = c.saturating_add-index.ensures in
    let below = c.if-index-core_type_count_in_module.true in
    let fits = c.core_type_count_in_module.type_inv in
    let count = ids_counted s c.core_type_count_in_module.result c.core_type_count_in_module.ensures in
    ap Some c.number.ensures
    ∙ row_of_id s c.args.first c.args.behind c.saturating_add-index.result c.core_type_at_in_module.result (omega arith) (omega arith) c.core_type_at_in_module.ensures

pub returns-else-index-core_type_count_in_module : goal.returns-else-index-core_type_count_in_module
returns-else-index-core_type_count_in_module c =
    let s = c.args.types.now.spaces in
    let sum = c.saturating_add-index.ensures in
    let over = c.if-index-core_type_count_in_module.false in
    let fits = c.core_type_count_in_module.type_inv in
    let count = ids_counted s c.core_type_count_in_module.result c.core_type_count_in_module.ensures in
    row_past_ids s c.args.first c.args.behind (omega arith)
