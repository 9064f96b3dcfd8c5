use Rattle.std.proofs.Common.{rules}
use Rattle.wasm_operators_encoding.proofs.expressions.control_stack.ControlStack.pop.Goals as goal

pub returns-clause-capacity : goal.returns-clause-capacity
returns-clause-capacity c = search rules
