-- The text of the bytes so far.
use Rattle.std.proofs.Common.{◌≡◌, flat_map, string_bytes, take}
use Rattle.wasm_check_command.specs.Names.{byte_text}
use Rattle.wasm_check_command.proofs.names.escaped.Given as goal

abbrev pub invariant-loop-place : goal.invariant-loop-place
invariant-loop-place l = string_bytes l.text ≡ flat_map byte_text (take l.place l.word)
