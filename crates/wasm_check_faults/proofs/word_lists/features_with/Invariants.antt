-- What the words that are left add decides.
use Rattle.std.proofs.Common.{◌≡◌, drop}
use Rattle.wasm_types.specs.settings.Sets.{bits_of, mvp}
use Rattle.wasm_check_faults.proofs.WordListLemmas.{added}
use Rattle.wasm_check_faults.proofs.word_lists.features_with.Given as goal

abbrev pub invariant-loop-word : goal.invariant-loop-word
invariant-loop-word l = added l.words (bits_of mvp) ≡ added (drop l.word-index l.words) l.features.0
