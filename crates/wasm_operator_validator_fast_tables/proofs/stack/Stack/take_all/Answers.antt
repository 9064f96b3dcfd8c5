use Rattle.std.proofs.Common.{refl, subst}
use Rattle.wasm_operator_validator_fast_tables.specs.Stacks.{Values, with_all}
use Rattle.wasm_operator_validator_fast_tables.specs.Values.{IsLowered}
use Rattle.wasm_operator_validator_fast_tables.proofs.Lowering.{lower_same}
use Rattle.wasm_operator_validator_fast_tables.proofs.stack.Stack.take_all.Goals as goal

pub returns-then-take_same : goal.returns-then-take_same
returns-then-take_same c = λ e. lower_same c.args.order.now c.args.self.now _ (c.if-take_same.ensures.taken e)

pub returns : goal.returns
returns c = λ e.
    subst (λ (v : Values). IsLowered c.args.order.now v (with_all c.args.types.now c.take_each.new.self)) (c.if-take_same.ensures.stays refl) (c.take_each.ensures e)
