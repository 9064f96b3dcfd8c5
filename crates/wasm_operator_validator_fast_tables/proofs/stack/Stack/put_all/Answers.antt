use Rattle.wasm_operator_validator_fast_tables.proofs.Lying.{all_put}
use Rattle.wasm_operator_validator_fast_tables.proofs.stack.Stack.put_all.Goals as goal

pub returns-then-types-gt-FEW : goal.returns-then-types-gt-FEW
returns-then-types-gt-FEW c = λ e.
    all_put c.self.inside.base c.args.types.now c.self.inside.items c.put_slice.new.self c.args.self.now c.self.invariant c.self.view_is (c.put_slice.ensures.put e)
