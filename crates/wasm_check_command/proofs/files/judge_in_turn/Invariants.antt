use Rattle.std.proofs.Common.{take}
use Rattle.wasm_check_command.specs.Modes.{ruling_of}
use Rattle.wasm_check_command.specs.Files.{texts, ReportsFiles}
use Rattle.wasm_check_command.proofs.files.judge_in_turn.Given as goal

-- the files before this place were judged
abbrev pub invariant-loop-place : goal.invariant-loop-place
invariant-loop-place g l =
    ReportsFiles (ruling_of g.J.Judge.accepts l.chosen) (take l.place (texts l.names)) (g.W.Write.contents l.fn.out) (g.W.Write.contents l.out) l.status
