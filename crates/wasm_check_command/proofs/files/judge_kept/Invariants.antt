use Rattle.std.proofs.Common.{◌≡◌, length, map}
use Rattle.wasm_check_command.specs.Modes.{ruling_of}
use Rattle.wasm_check_command.specs.Files.{ReportsFiles}
use Rattle.wasm_check_command.proofs.files.judge_kept.Given as goal

-- the files so far were judged
abbrev pub invariant-loop-input : goal.invariant-loop-input
invariant-loop-input g l = record {
  can : (goal.iterator-loop-input g).can_next l.input-iterator;
  finite : (goal.iterator-loop-input g).is_finite l.input-iterator;
  counted : l.index ≡ length l.yielded;
  reported : ReportsFiles (ruling_of g.J.Judge.accepts l.chosen) (map (λ i. i.name.now) l.yielded) (g.W.Write.contents l.initial.out) (g.W.Write.contents l.out) l.status;
}
