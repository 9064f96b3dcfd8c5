use Rattle.std.proofs.Common.{◌-◌, length, rules, arith}
use Rattle.wasm_check_faults.specs.LimitLists.{limit_step, limits_along}
use Rattle.wasm_check_faults.specs.Lists.{place_of}
use Rattle.wasm_check_faults.proofs.ListLemmas.{left_all, left_fault, left_last, left_more, words_end, words_go_on, rest_shorter}
use Rattle.wasm_check_faults.proofs.LimitLemmas.{set_step, wrong_step}
use Rattle.wasm_check_faults.proofs.limits.find_limits.Goals as goal

pub loop-turn-init : goal.loop-turn-init
unfolding limits_along
loop-turn-init c = (
  search rules,
  omega arith,
  c.requires.within,
  left_all limit_step c.args.list.now c.args.first,
)

pub returns-in-Err-clause-limits : goal.returns-in-Err-clause-limits
returns-in-Err-clause-limits c =
    let word = c.first_word.result.0.now in
    let start = length c.args.list.now - length c.loop-turn.rest.now in
    left_fault limit_step c.args.list.now c.loop-turn.rest.now _ _ c.loop-turn.invariant.3 word _ _ c.first_word.ensures.words
    (wrong_step (place_of start word) word c.loop-turn.limits c.limits_after.result c.limits_after.ensures.step c.in-Err.wrong c.in-Err.is)

pub returns-in_default-clause-limits : goal.returns-in_default-clause-limits
returns-in_default-clause-limits c =
    let word = c.first_word.result.0.now in
    let start = length c.args.list.now - length c.loop-turn.rest.now in
    left_last limit_step c.args.list.now c.loop-turn.rest.now _ _ c.loop-turn.invariant.3 word _
    (words_end c.loop-turn.rest.now word c.first_word.result.1 c.first_word.ensures.words c.in_default.is)
    (set_step (place_of start word) word c.loop-turn.limits c.limits_after.result c.limits_after.ensures.step c.in-Ok.next c.in-Ok.is)

pub loop-turn-preserved : goal.loop-turn-preserved
loop-turn-preserved c =
    let word = c.first_word.result.0.now in
    let more = c.in-Some.more in
    let start = length c.args.list.now - length c.loop-turn.rest.now in
    let shorter = rest_shorter c.loop-turn.rest.now word c.first_word.result.1 more c.first_word.ensures.shorter c.in-Some.is in (
      search rules,
      omega (arith, shorter, c.loop-turn.invariant.1),
      search rules,
      left_more limit_step c.args.list.now c.loop-turn.rest.now _ _ c.loop-turn.invariant.3 word more.now _
          (words_go_on c.loop-turn.rest.now word c.first_word.result.1 more c.first_word.ensures.words c.in-Some.is) shorter
          (set_step (place_of start word) word c.loop-turn.limits c.limits_after.result c.limits_after.ensures.step c.in-Ok.next c.in-Ok.is),
    )
