use Rattle.std.proofs.Common.{◌-◌, length, rules, arith}
use Rattle.wasm_check_faults.specs.FeatureLists.{feature_step, features_along}
use Rattle.wasm_check_faults.specs.Lists.{place_of}
use Rattle.wasm_check_faults.proofs.ListLemmas.{left_all, left_fault, left_last, left_more, words_end, words_go_on, rest_shorter, word_there}
use Rattle.wasm_check_faults.proofs.FeatureLemmas.{unknown_step, known_step}
use Rattle.wasm_check_faults.proofs.features.find_features.Goals as goal

pub loop-turn-init : goal.loop-turn-init
unfolding features_along
loop-turn-init c = (search rules, omega arith, left_all feature_step c.args.list.now c.args.first.0)

pub returns-in_default-clause-set : goal.returns-in_default-clause-set
returns-in_default-clause-set c =
    let word = c.first_word.result.0.now in
    let start = length c.args.list.now - length c.loop-turn.rest.now in
    left_fault feature_step c.args.list.now c.loop-turn.rest.now _ _ c.loop-turn.invariant.2 word _ _ c.first_word.ensures.words
    (unknown_step (place_of start word) word c.loop-turn.features.0 c.changed.result c.changed.ensures c.in_default.is)

pub returns-in_default-more-clause-set : goal.returns-in_default-more-clause-set
returns-in_default-more-clause-set c =
    let word = c.first_word.result.0.now in
    let start = length c.args.list.now - length c.loop-turn.rest.now in
    left_last feature_step c.args.list.now c.loop-turn.rest.now _ _ c.loop-turn.invariant.2 word _
    (words_end c.loop-turn.rest.now word c.first_word.result.1 c.first_word.ensures.words c.in_default-more.is)
    (known_step (place_of start word) word c.loop-turn.features.0 c.changed.result c.in-Some.next c.changed.ensures c.in-Some.is)

pub loop-turn-preserved : goal.loop-turn-preserved
loop-turn-preserved c =
    let word = c.first_word.result.0.now in
    let more = c.in-Some-more.more in
    let start = length c.args.list.now - length c.loop-turn.rest.now in
    let shorter = rest_shorter c.loop-turn.rest.now word c.first_word.result.1 more c.first_word.ensures.shorter c.in-Some-more.is in (
      search rules,
      omega (arith, shorter, c.loop-turn.invariant.1),
      left_more feature_step c.args.list.now c.loop-turn.rest.now _ _ c.loop-turn.invariant.2 word more.now _
          (words_go_on c.loop-turn.rest.now word c.first_word.result.1 more c.first_word.ensures.words c.in-Some-more.is) shorter
          (known_step (place_of start word) word c.loop-turn.features.0 c.changed.result c.in-Some.next c.changed.ensures c.in-Some.is),
    )

pub returns-in_default-clause-word : goal.returns-in_default-clause-word
returns-in_default-clause-word c = word_there c.args.list.now c.loop-turn.rest.now c.loop-turn.invariant.2.0 c.first_word.result.0.now c.first_word.ensures.front
