-- The digits that are left decide.
use Rattle.std.proofs.Common.{◌≡◌, ◌<◌, ◌^◌, drop}
use Rattle.wasm_check_faults.specs.LimitLists.{digits_after}
use Rattle.wasm_check_faults.proofs.limits.number_in.Given as goal

abbrev pub invariant-loop-i : goal.invariant-loop-i
invariant-loop-i l = (l.number < 10 ^ l.i) × (digits_after 0 l.text ≡ digits_after l.number (drop l.i l.text))
