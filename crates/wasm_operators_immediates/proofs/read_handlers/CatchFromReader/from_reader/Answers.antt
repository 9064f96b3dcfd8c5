-- The parts of each clause, one after the other.
use Rattle.std.proofs.Common.{refl}
use Rattle.std.proofs.lemmas.Result.{err_from_is_err_and}
use Rattle.wasm_types.specs.Laws.{reaches_then}
use Rattle.wasm_types.specs.reader.ReadingLaws.{fails_then}
use Rattle.wasm_operators_immediates.specs.Handlers.{clause, clause_after}
use Rattle.wasm_operators_immediates.proofs.read_handlers.CatchFromReader.from_reader.Goals as goal

pub returns-in_err-label-in-2-clause-answer : goal.returns-in_err-label-in-2-clause-answer
unfolding clause clause_after
returns-in_err-label-in-2-clause-answer c =
    let p = err_from_is_err_and c.from_residual-in_err-label-in-2.result c.from_residual-in_err-label-in-2.ensures.1 in
    rw (p.1, p.2, c.in_ok-byte.ensures.answer, c.in-2.is) (fails_then _ _ _ _ c.in_err-label-in-2.ensures.answer.0)

pub returns-in_ok-label-in-2-clause-answer : goal.returns-in_ok-label-in-2-clause-answer
unfolding clause clause_after
returns-in_ok-label-in-2-clause-answer c = rw (c.in_ok-byte.ensures.answer, c.in-2.is, c.in_ok-label-in-2.ensures.answer) refl

pub returns-in_ok-label-in-0-clause-forward : goal.returns-in_ok-label-in-0-clause-forward
returns-in_ok-label-in-0-clause-forward c =
    reaches_then _ _ _ c.in_ok-byte.ensures.forward (reaches_then _ _ _ c.in_ok-tag-in-0.ensures.forward c.in_ok-label-in-0.ensures.forward)

pub returns-in_ok-label-in-1-clause-answer : goal.returns-in_ok-label-in-1-clause-answer
unfolding clause clause_after
returns-in_ok-label-in-1-clause-answer c =
    rw (c.in_ok-byte.ensures.answer, c.in-1.is, c.in_ok-tag-in-1.ensures.answer, c.in_ok-label-in-1.ensures.answer) refl

pub returns-in_ok-label-in-1-clause-forward : goal.returns-in_ok-label-in-1-clause-forward
returns-in_ok-label-in-1-clause-forward c =
    reaches_then _ _ _ c.in_ok-byte.ensures.forward (reaches_then _ _ _ c.in_ok-tag-in-1.ensures.forward c.in_ok-label-in-1.ensures.forward)

pub returns-in_ok-label-in-2-clause-forward : goal.returns-in_ok-label-in-2-clause-forward
returns-in_ok-label-in-2-clause-forward c = reaches_then _ _ _ c.in_ok-byte.ensures.forward c.in_ok-label-in-2.ensures.forward

pub returns-in_ok-label-in-3-clause-answer : goal.returns-in_ok-label-in-3-clause-answer
unfolding clause clause_after
returns-in_ok-label-in-3-clause-answer c = rw (c.in_ok-byte.ensures.answer, c.in-3.is, c.in_ok-label-in-3.ensures.answer) refl

pub returns-in_ok-label-in-3-clause-forward : goal.returns-in_ok-label-in-3-clause-forward
returns-in_ok-label-in-3-clause-forward c = reaches_then _ _ _ c.in_ok-byte.ensures.forward c.in_ok-label-in-3.ensures.forward
