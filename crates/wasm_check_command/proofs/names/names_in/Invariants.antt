-- The names before this place are told.
use Rattle.std.proofs.Common.{◌≤◌, map, string_bytes}
use Rattle.wasm_check_command.proofs.NameLemmas.{AreSoFar}
use Rattle.wasm_check_command.proofs.names.names_in.Given as goal

abbrev pub invariant-loop-turn : goal.invariant-loop-turn
invariant-loop-turn l = AreSoFar l.list l.start (map string_bytes l.names.items) × (l._turn ≤ l.start)
