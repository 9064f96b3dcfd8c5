-- What is left of the list, from the set so far on, decides.
use Rattle.std.proofs.Common.{◌+◌, ◌≤◌, length}
use denote.Text.{Utf8}
use denote.Shadow.{shadow}
use Rattle.wasm_check_faults.specs.FeatureLists.{feature_step, features_along}
use Rattle.wasm_check_faults.proofs.ListLemmas.{IsLeft}
use Rattle.wasm_check_faults.proofs.features.find_features.Given as goal

abbrev pub invariant-loop-turn : goal.invariant-loop-turn
invariant-loop-turn l = shadow (Utf8 l.rest) × (length l.rest + l._turn ≤ length l.list) × IsLeft feature_step l.list (features_along l.list l.fn.first.0) l.rest l.features.0
