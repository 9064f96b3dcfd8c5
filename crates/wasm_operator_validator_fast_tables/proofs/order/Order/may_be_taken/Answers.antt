use Rattle.wasm_operator_validator_fast_tables.proofs.Reaching.{same_below}
use Rattle.wasm_operator_validator_fast_tables.proofs.order.Order.may_be_taken.Goals as goal

pub returns-then-code-other : goal.returns-then-code-other
returns-then-code-other c = λ e. same_below c.args.self.now c.args.code c.args.other c.if-code-other.true
