use Rattle.std.proofs.Common.{◌∙◌, arith}
use Rattle.wasm_module_validator_rows.proofs.Taking.{row_of_entity, row_past_entities}
use Rattle.wasm_module_validator_rows.proofs.entities.entity_at.Goals as goal

pub returns-then-index-count_of : goal.returns-then-index-count_of
returns-then-index-count_of c =
    let sum = c.saturating_add-index.ensures in
    let below = c.if-index-count_of.true in
    let count = c.count_of.ensures in
    let fits = c.count_of.type_inv in
    c.row_at.ensures ∙ row_of_entity c.args.types.now.spaces c.args.kind c.args.first c.args.behind c.saturating_add-index.result (omega arith) (omega arith)

pub returns-else-index-count_of : goal.returns-else-index-count_of
returns-else-index-count_of c =
    let sum = c.saturating_add-index.ensures in
    let over = c.if-index-count_of.false in
    let count = c.count_of.ensures in
    let fits = c.count_of.type_inv in
    row_past_entities c.args.types.now.spaces c.args.kind c.args.first c.args.behind (omega arith)
