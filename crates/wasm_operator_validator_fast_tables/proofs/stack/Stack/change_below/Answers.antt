use Rattle.wasm_operator_validator_fast_tables.proofs.Lying.{put_for}
use Rattle.wasm_operator_validator_fast_tables.proofs.stack.Stack.change_below.Goals as goal

pub returns : goal.returns
returns c = λ e.
    put_for c.args.order.now c.args.self.now c.change.new.self c.under-top.result c.args.ty (c.change.ensures e) (c.may_be_taken.ensures c.if-not-may_be_taken.false)
