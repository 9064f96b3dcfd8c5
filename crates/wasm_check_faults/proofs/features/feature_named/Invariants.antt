-- What is left of the features decides.
use Rattle.std.proofs.Common.{◌≡◌, drop}
use Rattle.wasm_check_faults.specs.FeatureLists.{named}
use Rattle.wasm_check_faults.proofs.FeatureLemmas.{rows_of}
use Rattle.wasm_check_faults.proofs.features.feature_named.Given as goal

abbrev pub invariant-loop-flag : goal.invariant-loop-flag
invariant-loop-flag l = named (rows_of l.flags) l.word ≡ named (rows_of (drop l.flag-index l.flags)) l.word
