use Rattle.wasm_operator_validator_stacks.proofs.Popping.{popped_same}
use Rattle.wasm_operator_validator_stacks.proofs.validator.OperatorValidator.pop_operand.Goals as goal

pub returns-then-pop_same-clause-does : goal.returns-then-pop_same-clause-does
returns-then-pop_same-clause-does g c =
    popped_same (g.R.WasmModuleResources.meaning c.args.resources.now) c.args.self.now c.pop_same.new.self c.args.expected.now (c.pop_same.ensures.popped c.if-pop_same.true (g.R.WasmModuleResources.meaning c.args.resources.now))
