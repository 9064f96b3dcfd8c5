use Rattle.std.proofs.Common.{◌∙◌, ℕ, ap, sym, Some, slice_get, option_map, arith}
use Rattle.wasm_module_validator_type_storage.specs.trees.Groups.{declared_by_id}
use Rattle.wasm_module_validator_rows.specs.Types.{told_type}
use Rattle.wasm_module_validator_rows.proofs.Counting.{row_of_type, row_past_types}
use Rattle.wasm_module_validator_rows.proofs.types.type_at.Goals as goal

pub returns-then-number-total : goal.returns-then-number-total
returns-then-number-total c =
    let r = c.requires in
    let sum = c.saturating_add-number.ensures in
    let over = c.if-number-total.true in
    let fits = c.ranges.total.fits in
    row_past_types c.args.types.now.groups c.args.first c.args.behind (omega arith)

pub returns-in-Some : goal.returns-in-Some
returns-in-Some c =
    let groups = c.args.types.now.groups in
    let r = c.requires in
    let sum = c.saturating_add-number.ensures in
    let below = c.if-number-total.false in
    let fits = c.ranges.total.fits in
    let id : ℕ = c.saturating_add-number.result in
    ap Some c.type_row.ensures
    ∙ ap (option_map (told_type groups id)) (c.in-Some.ensures ∙ ap (λ (n : ℕ). slice_get (declared_by_id groups) n) c.new.ensures)
    ∙ sym (row_of_type groups c.args.first c.args.behind id (omega arith) (omega arith))

pub returns-in-None : goal.returns-in-None
returns-in-None c =
    let groups = c.args.types.now.groups in
    let r = c.requires in
    let sum = c.saturating_add-number.ensures in
    let below = c.if-number-total.false in
    let fits = c.ranges.total.fits in
    let id : ℕ = c.saturating_add-number.result in
    ap (option_map (told_type groups id)) (c.in-None.ensures ∙ ap (λ (n : ℕ). slice_get (declared_by_id groups) n) c.new.ensures)
    ∙ sym (row_of_type groups c.args.first c.args.behind id (omega arith) (omega arith))
