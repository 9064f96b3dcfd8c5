-- No name before this place is that of standard input.
use Rattle.std.proofs.Common.{◌≡◌, All, false, map, string_bytes, take}
use Rattle.wasm_check_command.specs.Opened.{names_stdin}
use Rattle.wasm_check_command.proofs.listing.are_files.Given as goal

abbrev pub invariant-loop-place : goal.invariant-loop-place
invariant-loop-place l = All (λ n. names_stdin n ≡ false) (take l.place (map string_bytes l.names))
