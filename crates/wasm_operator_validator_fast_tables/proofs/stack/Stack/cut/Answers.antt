use Rattle.wasm_operator_validator_fast_tables.proofs.Lying.{none_left}
use Rattle.wasm_operator_validator_fast_tables.proofs.stack.Stack.cut.Goals as goal

pub returns : goal.returns
returns c = none_left c.self.inside.base c.self.inside.items c.keep.new.self c.args.self.now c.self.invariant c.self.view_is c.keep.ensures
