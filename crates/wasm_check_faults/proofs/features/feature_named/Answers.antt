use Rattle.std.proofs.Common.{refl, rules}
use Rattle.wasm_check_lines.specs.FeatureWords.{feature_words}
use Rattle.wasm_check_faults.proofs.FeatureLemmas.{rows_are, named_here, named_nowhere}
use Rattle.wasm_check_faults.proofs.features.feature_named.Goals as goal

pub returns-then-is_spelled : goal.returns-then-is_spelled
unfolding feature_words
returns-then-is_spelled c =
    named_here c.flags-flags.result.now c.args.word.now c.loop-flag.flag-index (rows_are c.flags-flags.result.now _ (c.flags-flags.ensures tt) refl) c.loop-flag.invariant
    _ c.name.result.now c.value.result.now (search rules) c.name.ensures c.value.ensures (search rules)

pub returns : goal.returns
unfolding feature_words
returns c =
    named_nowhere c.flags-flags.result.now c.args.word.now c.loop-flag.flag-index (rows_are c.flags-flags.result.now _ (c.flags-flags.ensures tt) refl) c.loop-flag.invariant (search rules)
