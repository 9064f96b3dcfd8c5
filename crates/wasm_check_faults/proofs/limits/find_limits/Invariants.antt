-- What is left of the list, from the limits so far on, decides.
use Rattle.std.proofs.Common.{◌+◌, ◌≤◌, length}
use denote.Text.{Utf8}
use denote.Shadow.{shadow}
use Rattle.wasm_types.specs.settings.Limits.{IsWithinCeilings}
use Rattle.wasm_check_faults.specs.LimitLists.{limit_step, limits_along}
use Rattle.wasm_check_faults.proofs.ListLemmas.{IsLeft}
use Rattle.wasm_check_faults.proofs.limits.find_limits.Given as goal

abbrev pub invariant-loop-turn : goal.invariant-loop-turn
invariant-loop-turn l = shadow (Utf8 l.rest) × (length l.rest + l._turn ≤ length l.list) × IsWithinCeilings l.limits × IsLeft limit_step l.list (limits_along l.list l.fn.first) l.rest l.limits
