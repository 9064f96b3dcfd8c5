use Rattle.std.proofs.Common.{rules}
use Rattle.wasm_operators_reader.proofs.walks.read_operators.BinaryReaderReadOperators.peek_operator.Goals as goal

pub returns-clause-read : goal.returns-clause-read
returns-clause-read c = search rules

pub returns-clause-refused : goal.returns-clause-refused
returns-clause-refused c = search rules

pub returns-clause-no_memory : goal.returns-clause-no_memory
returns-clause-no_memory c = search rules
