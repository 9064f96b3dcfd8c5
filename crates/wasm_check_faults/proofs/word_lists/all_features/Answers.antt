use Rattle.std.proofs.Common.{ap, length, map}
use Rattle.wasm_check_lines.specs.FeatureWords.{feature_words}
use Rattle.wasm_check_faults.specs.WordLists.{row_of}
use Rattle.wasm_check_faults.proofs.WordListLemmas.{all_known, all_named}
use Rattle.wasm_check_faults.proofs.word_lists.all_features.Goals as goal

pub returns-in-Ok-clause-known : goal.returns-in-Ok-clause-known
unfolding feature_words
returns-in-Ok-clause-known c = all_known c.in-Ok.words.items (ap (map row_of) c.in-Ok.ensures.items)

pub returns-in-Ok-clause-all : goal.returns-in-Ok-clause-all
unfolding feature_words
returns-in-Ok-clause-all c = all_named c.in-Ok.words.items (ap (map row_of) c.in-Ok.ensures.items)

pub returns-in-Ok-clause-count : goal.returns-in-Ok-clause-count
returns-in-Ok-clause-count c = ap length c.in-Ok.ensures.items
