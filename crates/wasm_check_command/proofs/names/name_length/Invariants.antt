-- No byte before this place is 0.
use Rattle.std.proofs.Common.{◌≡◌, ◌==◌, All, false, take}
use Rattle.wasm_check_command.proofs.names.name_length.Given as goal

abbrev pub invariant-loop-place : goal.invariant-loop-place
invariant-loop-place l = All (λ b. (b == 0) ≡ false) (take l.place l.bytes)
