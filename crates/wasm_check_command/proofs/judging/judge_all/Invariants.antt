use Rattle.std.proofs.Common.{◌≡◌, length}
use Rattle.wasm_check_command.specs.Modes.{ruling_of}
use Rattle.wasm_check_command.specs.Reports.{sources_of, IsReported}
use Rattle.wasm_check_command.proofs.judging.judge_all.Given as goal

-- the inputs so far were judged
abbrev pub invariant-loop-input : goal.invariant-loop-input
invariant-loop-input g l = record {
  can : (goal.iterator-loop-input g).can_next l.input-iterator;
  finite : (goal.iterator-loop-input g).is_finite l.input-iterator;
  counted : l.index ≡ length l.yielded;
  reported : IsReported (ruling_of g.J.Judge.accepts l.chosen) (sources_of g.R.Read.remaining l.yielded) (g.W.Write.contents l.initial.out) (g.W.Write.contents l.out) l.status;
}
