-- What is left of the bytes decides.
use Rattle.std.proofs.Common.{◌≡◌, drop}
use Rattle.wasm_check_lines.specs.Hints.{is_text}
use Rattle.wasm_check_lines.proofs.hints.is_text.Given as goal

abbrev pub invariant-loop-i : goal.invariant-loop-i
invariant-loop-i l = is_text l.front ≡ is_text (drop l.i l.front)
