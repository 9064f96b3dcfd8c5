use Rattle.std.proofs.Common.{subst, sym}
use Rattle.wasm_operators_reader.specs.Standing.{Standing, WantsMemory}
use Rattle.wasm_operators_reader.proofs.operators_reader.OperatorsReader.read.Goals as goal

pub returns-clause-no_memory : goal.returns-clause-no_memory
returns-clause-no_memory c = λ h. c.read_other.ensures.no_memory (subst (λ (s : Standing). WantsMemory s → ⊥) (sym c.in_default.ensures.stays) h)
