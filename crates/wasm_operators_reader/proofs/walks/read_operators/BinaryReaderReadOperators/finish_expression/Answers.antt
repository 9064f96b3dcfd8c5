use Rattle.std.proofs.Common.{arith}
use Rattle.std.proofs.lemmas.Grind.{common_steps}
use Rattle.wasm_operators_reader.proofs.walks.read_operators.BinaryReaderReadOperators.finish_expression.Goals as goal

pub returns-clause-finished : goal.returns-clause-finished
returns-clause-finished c = grind (arith, common_steps)
