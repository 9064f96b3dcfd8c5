use Rattle.std.proofs.Common.{◌≡◌, ◌⊎◌, []}
use Rattle.wasm_check_command.proofs.files.try_to_open.Given as goal

-- the inputs are kept open, or none is
abbrev pub invariant-loop-place : goal.invariant-loop-place
invariant-loop-place g l = (l.inputs.items ≡ l.initial.inputs.items) ⊎ (l.inputs.items ≡ [])
