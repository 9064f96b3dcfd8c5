-- The type of the block, and then the clauses.
use Rattle.wasm_types.specs.Laws.{reaches_then}
use Rattle.wasm_operators_immediates.proofs.read_handlers.TryTableFromReader.from_reader.Goals as goal

pub returns-clause-forward : goal.returns-clause-forward
returns-clause-forward c = reaches_then _ _ _ c.in_ok-ty.ensures.forward c.in_ok-catches.ensures.forward
