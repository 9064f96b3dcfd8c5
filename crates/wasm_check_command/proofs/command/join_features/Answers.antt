use Rattle.std.proofs.Common.{◌∙◌, arith, sym, ap}
use Rattle.std.proofs.lemmas.List.{length-map}
use Rattle.wasm_check_faults.specs.FeatureLists.{features_along}
use Rattle.wasm_check_faults.specs.Lists.{through_lists}
use Rattle.wasm_check_command.specs.Files.{texts}
use Rattle.wasm_check_faults.proofs.ListLemmas.{list_taken, list_fault, list_there, lists_end}
use Rattle.wasm_check_command.proofs.command.join_features.Goals as goal

pub loop-place-init : goal.loop-place-init
loop-place-init c = ap (through_lists features_along (texts c.args.lists.now)) (sym c.default-features.ensures)

pub loop-place-preserved : goal.loop-place-preserved
loop-place-preserved c =
    c.loop-place.invariant ∙ list_taken features_along (texts c.args.lists.now) c.loop-place.place c.name_at.result.now c.name_at.ensures c.loop-place.features.0 c.in-Ok.next.0 c.in-Ok.ensures.set

pub returns-in-Err-clause-err : goal.returns-in-Err-clause-err
returns-in-Err-clause-err c = record {
  list = c.name_at.result.now;
  has = list_there features_along (texts c.args.lists.now) c.loop-place.place c.name_at.result.now c.name_at.ensures;
  start = c.in-Err.unknown.start;
  there = c.in-Err.ensures.word;
  first = c.loop-place.invariant ∙ list_fault features_along (texts c.args.lists.now) c.loop-place.place c.name_at.result.now c.name_at.ensures c.loop-place.features.0 _ c.in-Err.ensures.set;
}

pub returns-clause-ok : goal.returns-clause-ok
returns-clause-ok c =
    c.loop-place.invariant ∙ lists_end features_along (texts c.args.lists.now) c.loop-place.place c.loop-place.features.0
    (omega (arith, length-map c.args.lists.now (λ n. n.now), c.loop-place-test.false))
