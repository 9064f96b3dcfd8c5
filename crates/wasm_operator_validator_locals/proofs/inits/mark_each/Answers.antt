use Rattle.std.proofs.Common.{get_or}
use Rattle.std.proofs.lemmas.List.{get_or_default}
use Rattle.wasm_operator_validator_locals.proofs.Marking.{each_inside, each_more, each_later}
use Rattle.wasm_operator_validator_locals.proofs.inits.mark_each.Goals as goal

pub mark_one-requires : goal.mark_one-requires
mark_one-requires c =
    let x = get_or c.args.locals.now c.loop-local_index.local_index-index 0 in
    (each_inside c.args.marks.now.items c.loop-local_index.marks.items c.args.locals.now c.loop-local_index.local_index-index x c.requires.unset c.loop-local_index.invariant.0
    c.loop-local_index-test.true (get_or_default c.args.locals.now c.loop-local_index.local_index-index 0 x c.loop-local_index-test.true)).0

pub loop-local_index-preserved : goal.loop-local_index-preserved
loop-local_index-preserved c =
    let x = get_or c.args.locals.now c.loop-local_index.local_index-index 0 in
    let e = get_or_default c.args.locals.now c.loop-local_index.local_index-index 0 x c.loop-local_index-test.true in
    let (h, f) = each_inside c.args.marks.now.items c.loop-local_index.marks.items c.args.locals.now c.loop-local_index.local_index-index x c.requires.unset
    c.loop-local_index.invariant.0 c.loop-local_index-test.true e in (
      each_later c.args.marks.now.items c.loop-local_index.marks.items c.mark_one.new.marks.items x c.args.mark c.loop-local_index.invariant.0 f c.requires.no_first c.mark_one.ensures,
      each_more c.args.marks.now.items c.loop-local_index.marks.items c.mark_one.new.marks.items c.args.locals.now c.loop-local_index.local_index-index x c.args.mark
          c.loop-local_index-test.true e h c.mark_one.ensures c.loop-local_index.invariant.1,
    )
