-- The parts of each handler, one after the other.
use Rattle.std.proofs.Common.{refl}
use Rattle.wasm_types.specs.Laws.{reaches_then}
use Rattle.wasm_operators_immediates.specs.Handlers.{handle, handle_after}
use Rattle.wasm_operators_immediates.proofs.read_handlers.HandleFromReader.from_reader.Goals as goal

pub returns-in_ok-label-in-0-clause-forward : goal.returns-in_ok-label-in-0-clause-forward
returns-in_ok-label-in-0-clause-forward c =
    reaches_then _ _ _ c.in_ok-byte.ensures.forward (reaches_then _ _ _ c.in_ok-tag-in-0.ensures.forward c.in_ok-label-in-0.ensures.forward)

pub returns-in_ok-tag-in-1-clause-answer : goal.returns-in_ok-tag-in-1-clause-answer
unfolding handle handle_after
returns-in_ok-tag-in-1-clause-answer c = rw (c.in_ok-byte.ensures.answer, c.in-1.is, c.in_ok-tag-in-1.ensures.answer) refl

pub returns-in_ok-tag-in-1-clause-forward : goal.returns-in_ok-tag-in-1-clause-forward
returns-in_ok-tag-in-1-clause-forward c = reaches_then _ _ _ c.in_ok-byte.ensures.forward c.in_ok-tag-in-1.ensures.forward
