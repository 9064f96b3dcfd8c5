use Rattle.std.proofs.Common.{rules}
use Rattle.wasm_operators_encoding.proofs.expressions.control_stack.ControlStack.follow.Goals as goal

pub returns-in-Turns-clause-fits : goal.returns-in-Turns-clause-fits
returns-in-Turns-clause-fits c = search rules
