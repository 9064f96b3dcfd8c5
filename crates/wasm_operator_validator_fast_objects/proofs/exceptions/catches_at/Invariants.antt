use Rattle.std.proofs.Common.{◌∷◌}
use Rattle.wasm_operator_validator_fast_objects.specs.Exceptions.{AreCatches}
use Rattle.wasm_operator_validator_fast_objects.proofs.exceptions.catches_at.Given as goal

abbrev pub invariant-loop : goal.invariant-loop
invariant-loop l = AreCatches l.bytes l.tables (l.opens.inner ∷ l.opens.outer) l.fn.at l.counter l.end
