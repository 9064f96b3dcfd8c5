use Rattle.wasm_operator_validator_stacks.proofs.MoreLocals.{not_written}
use Rattle.wasm_operator_validator_stacks.proofs.validator.OperatorValidator.named_by_ids.Goals as goal

pub returns-in-Err-clause-answer : goal.returns-in-Err-clause-answer
returns-in-Err-clause-answer g c =
    let m = g.R.WasmModuleResources.meaning c.args.resources.now in
    rw (← c.self.view_is) (not_written c.in-Err.error.kind m c.self.inside.features.0 c.args.ty c.check_value_type.new.ty c.in-Err.ensures.refused c.in-Err.ensures.answer)
