-- What is left of both decides.
use Rattle.std.proofs.Common.{◌≡◌, bytes_eq, drop}
use Rattle.wasm_check_faults.specs.FeatureLists.{word_of}
use Rattle.wasm_check_faults.proofs.features.is_spelled.Given as goal

abbrev pub invariant-loop-i : goal.invariant-loop-i
invariant-loop-i l = bytes_eq l.word (word_of l.name) ≡ bytes_eq (drop l.i l.word) (word_of (drop l.i l.name))
