use Rattle.std.proofs.Common.{◌∙◌, arith, sym, ap}
use Rattle.std.proofs.lemmas.List.{length-map}
use Rattle.wasm_check_faults.specs.LimitLists.{limits_along}
use Rattle.wasm_check_faults.specs.Lists.{through_lists}
use Rattle.wasm_check_command.specs.Files.{texts}
use Rattle.wasm_check_faults.proofs.ListLemmas.{list_taken, list_fault, list_there, lists_end}
use Rattle.wasm_check_command.proofs.command.join_limits.Goals as goal

pub loop-place-init : goal.loop-place-init
loop-place-init c = (ap (through_lists limits_along (texts c.args.lists.now)) (sym c.default_limits-limits.ensures.value), c.default_limits-limits.ensures.within)

pub loop-place-preserved : goal.loop-place-preserved
loop-place-preserved c = (
  c.loop-place.invariant.0 ∙ list_taken limits_along (texts c.args.lists.now) c.loop-place.place c.name_at.result.now c.name_at.ensures c.loop-place.limits c.in-Ok.next c.in-Ok.ensures.limits,
  c.in-Ok.ensures.within,
)

pub returns-in-Err-clause-err : goal.returns-in-Err-clause-err
returns-in-Err-clause-err c = record {
  list = c.name_at.result.now;
  has = list_there limits_along (texts c.args.lists.now) c.loop-place.place c.name_at.result.now c.name_at.ensures;
  start = c.in-Err.fault.word.start;
  there = c.in-Err.ensures.word;
  first = c.loop-place.invariant.0 ∙ list_fault limits_along (texts c.args.lists.now) c.loop-place.place c.name_at.result.now c.name_at.ensures c.loop-place.limits _ c.in-Err.ensures.limits;
}

pub returns-clause-ok : goal.returns-clause-ok
returns-clause-ok c =
    c.loop-place.invariant.0 ∙ lists_end limits_along (texts c.args.lists.now) c.loop-place.place c.loop-place.limits
    (omega (arith, length-map c.args.lists.now (λ n. n.now), c.loop-place-test.false))
