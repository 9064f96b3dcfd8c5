-- The names before this place are there.
use Rattle.std.proofs.Common.{◌≡◌, map, string_bytes, take}
use Rattle.wasm_check_command.specs.Files.{texts}
use Rattle.wasm_check_command.proofs.listing.borrowed.Given as goal

abbrev pub invariant-loop-place : goal.invariant-loop-place
invariant-loop-place l = texts l.all.items ≡ map string_bytes (take l.place l.names)
