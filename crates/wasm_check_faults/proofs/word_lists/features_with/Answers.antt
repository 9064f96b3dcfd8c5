use Rattle.std.proofs.Common.{◌∙◌, ◌+◌, ap, drop, rules, sym}
use Rattle.std.specs.Prelude.{Ok}
use Rattle.wasm_check_faults.proofs.WordListLemmas.{added, added_all, added_more, listed_is}
use Rattle.wasm_check_faults.proofs.word_lists.features_with.Goals as goal

pub loop-word-preserved : goal.loop-word-preserved
loop-word-preserved c =
    c.loop-word.invariant ∙ added_more c.args.words.now c.loop-word.word-index _ c.loop-word.features.0 (search rules)
    ∙ ap (added (drop (c.loop-word.word-index + 1) c.args.words.now)) (sym (c.union-features.ensures tt))

pub returns : goal.returns
returns c =
    listed_is c.args.words.now c.requires.known
    ∙ ap Ok (c.loop-word.invariant ∙ added_all c.args.words.now c.loop-word.word-index c.loop-word.features.0 (search rules))
