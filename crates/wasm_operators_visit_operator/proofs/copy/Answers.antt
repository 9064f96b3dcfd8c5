use Rattle.std.proofs.Common.{rules}
use Rattle.wasm_operators_visit_operator.proofs.copy.Goals as goal

pub returns-clause-memory : goal.returns-clause-memory
returns-clause-memory c = search rules
