use Rattle.wasm_operator_validator_stacks.proofs.validator.OperatorValidator.named.Goals as goal

pub returns-then-is_allowed_number-clause-answer : goal.returns-then-is_allowed_number-clause-answer
returns-then-is_allowed_number-clause-answer g c =
    rw (← c.self.view_is) (c.is_allowed_number.ensures c.if-is_allowed_number.true (g.R.WasmModuleResources.meaning c.args.resources.now))
