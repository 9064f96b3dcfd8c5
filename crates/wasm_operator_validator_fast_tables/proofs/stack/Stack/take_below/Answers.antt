use Rattle.wasm_operator_validator_fast_tables.proofs.Lying.{taken_for}
use Rattle.wasm_operator_validator_fast_tables.proofs.stack.Stack.take_below.Goals as goal

pub returns : goal.returns
returns c = λ e.
    taken_for c.args.order.now c.args.self.now c.take.new.self c.under-top.result c.args.ty (c.take.ensures e) (c.may_be_taken.ensures c.if-not-may_be_taken.false)
