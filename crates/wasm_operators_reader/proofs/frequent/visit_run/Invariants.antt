use Rattle.std.proofs.Common.{length, Ok}
use Rattle.wasm_operators_reader.specs.Walking.{WalksTo}
use Rattle.wasm_operators_reader.proofs.frequent.visit_run.Given as goal

-- the visitor was told of what was read so far
abbrev pub invariant-loop-reader : goal.invariant-loop-reader
invariant-loop-reader g l =
    WalksTo g.V.Visitor.visits (Ok tt) (record { bytes = l.initial.reader; frames = l.initial.control.frames }) l.initial.visitor
    (record { bytes = l.reader; frames = l.control.frames }) l.visitor

abbrev pub decreases-loop-reader : goal.decreases-loop-reader
decreases-loop-reader g l = length l.reader.rest
