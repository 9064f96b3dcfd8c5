use Rattle.std.proofs.Common.{◌≡◌, drop}
use Rattle.wasm_sections_parser.specs.Needs.{are_not_last}
use Rattle.wasm_sections_parser.proofs.needs.are_not_last.Given as goal

-- the bytes so far are not last
abbrev pub invariant-loop-i : goal.invariant-loop-i
invariant-loop-i l = are_not_last l.size ≡ are_not_last (drop l.i l.size)
