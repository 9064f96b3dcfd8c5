-- The files before this place were judged, or came to no verdict.
use Rattle.std.proofs.Common.{◌≡◌, ◌≤◌, length, false}
use Rattle.std.specs.Io.KnownBytes.{Keeps}
use Rattle.wasm_check_command.specs.Modes.{ruling_of}
use Rattle.wasm_check_command.specs.Files.{texts, GoesSoFar}
use Rattle.wasm_check_command.proofs.going.judge_each.Given as goal

abbrev pub invariant-loop-place : goal.invariant-loop-place
invariant-loop-place g l =
    GoesSoFar (ruling_of g.J.Judge.accepts l.chosen) (texts l.names) l.place (g.W.Write.contents l.initial.out) (g.W.Write.contents l.out) l.ended.status l.ended.lost
    × (l.ended.lost ≡ false → Keeps (g.E.Write.contents l.initial.err) (g.E.Write.contents l.err)) × (l.place ≤ length (texts l.names))
