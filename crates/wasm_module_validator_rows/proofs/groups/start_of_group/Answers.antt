use Rattle.std.proofs.Common.{◌∙◌, ℕ, ◌-◌, ap, sym, slice_get, arith}
use Rattle.wasm_module_validator_type_storage.specs.trees.Groups.{group_numbers}
use Rattle.wasm_module_validator_rows.specs.Types.{group_start, group_end}
use Rattle.wasm_module_validator_rows.proofs.Counting.{first_id, no_id}
use Rattle.wasm_module_validator_rows.proofs.Grouping.{around, numbered}
use Rattle.wasm_module_validator_rows.proofs.groups.start_of_group.Goals as goal

pub rec_group_elements-requires : goal.rec_group_elements-requires
rec_group_elements-requires c =
    let groups = c.args.types.now.groups in
    let e = ap (λ (n : ℕ). slice_get (group_numbers groups) n) (sym c.new.ensures) ∙ c.rec_group_id_of-group.ensures in
    (numbered groups c.args.id c.rec_group_id_of-group.result.0 c.requires e).known

pub returns-in-Some : goal.returns-in-Some
returns-in-Some c =
    let groups = c.args.types.now.groups in
    let e = ap (λ (n : ℕ). slice_get (group_numbers groups) n) (sym c.new.ensures) ∙ c.rec_group_id_of-group.ensures in
    let is = numbered groups c.args.id c.rec_group_id_of-group.result.0 c.requires e in
    let start = group_start groups c.args.id in
    let end = group_end groups c.args.id in
    c.number.ensures ∙ first_id start (end - start) c.in-Some.first _ (sym (c.rec_group_elements.ensures start end is.ids) ∙ c.in-Some.ensures.steps)

pub returns-in-None : goal.returns-in-None
returns-in-None c =
    let groups = c.args.types.now.groups in
    let e = ap (λ (n : ℕ). slice_get (group_numbers groups) n) (sym c.new.ensures) ∙ c.rec_group_id_of-group.ensures in
    let is = numbered groups c.args.id c.rec_group_id_of-group.result.0 c.requires e in
    let start = group_start groups c.args.id in
    let end = group_end groups c.args.id in
    let a = around groups c.args.id c.requires in
    let b = a.begins in
    let n = a.ends in
    absurd (no_id start (end - start) (omega arith) (sym (c.rec_group_elements.ensures start end is.ids) ∙ c.in-None.ensures.steps.0))
