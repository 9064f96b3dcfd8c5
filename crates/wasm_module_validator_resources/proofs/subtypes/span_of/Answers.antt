use Rattle.std.proofs.Common.{arith}
use Rattle.wasm_module_validator_resources.specs.laws.Alike.{number_in, around, span_at}
use Rattle.wasm_module_validator_resources.proofs.subtypes.span_of.Goals as goal

pub rec_group_elements-elements-requires : goal.rec_group_elements-elements-requires
rec_group_elements-elements-requires c =
    number_in c.args.types.now.groups c.type_count-count.ensures.formed c.args.id.0 c.rec_group_id_of-number.result.0 c.requires c.rec_group_id_of-number.ensures

pub overflow_sub-result : goal.overflow_sub-result
overflow_sub-result c =
    let w = around c.args.types.now.groups c.type_count-count.ensures.formed c.args.id.0 c.rec_group_id_of-number.result.0 _ _ c.requires c.rec_group_id_of-number.ensures
    c.rec_group_elements-elements.ensures in
    let begins = w.begins in
    let ends = w.ends in
    omega (arith, c.number-first.ensures, c.number-end.ensures)

pub returns : goal.returns
returns c =
    rw (c.number-first.ensures, c.number-end.ensures) (span_at c.args.types.now.groups c.type_count-count.ensures.formed c.args.id.0 c.rec_group_id_of-number.result.0 _ _
    c.requires c.rec_group_id_of-number.ensures c.rec_group_elements-elements.ensures)
