use Rattle.std.proofs.Common.{rules}
use Rattle.wasm_operators_bodies.proofs.constant.ConstExprPartialEq.eq.Goals as goal

pub returns : goal.returns
returns c = search rules
