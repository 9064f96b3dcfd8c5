use Rattle.std.proofs.Common.{sym}
use Rattle.wasm_operators.proofs.read_operators.BinaryReaderReadToVisitor.visit_operator.Goals as goal

pub returns-in-Err-clause-refused : goal.returns-in-Err-clause-refused
returns-in-Err-clause-refused g c = rw (sym c.current_frame.ensures) c.in-Err.ensures.refused
