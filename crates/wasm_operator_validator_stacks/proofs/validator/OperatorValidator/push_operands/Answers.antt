use Rattle.std.proofs.lemmas.Result.{err_from_is_err_and}
use Rattle.std.proofs.lemmas.List.{get_or_default}
use Rattle.std.proofs.Common.{◌∙◌}
use Rattle.wasm_operator_validator_stacks.proofs.Popping.{pushed_none, pushed_next}
use Rattle.wasm_operator_validator_stacks.proofs.validator.OperatorValidator.push_operands.Goals as goal

pub loop-one-init : goal.loop-one-init
loop-one-init g c = pushed_none (g.R.WasmModuleResources.meaning c.args.resources.now) c.args.self.now c.requires

pub returns-in_err-push_operand-clause-does : goal.returns-in_err-push_operand-clause-does
returns-in_err-push_operand-clause-does g c =
    let m = g.R.WasmModuleResources.meaning c.args.resources.now in
    let p = err_from_is_err_and c.from_residual.result c.from_residual.ensures.1 in
    rw (p.1, p.2) (c.in_err-push_operand.ensures.does m)

pub loop-one-preserved : goal.loop-one-preserved
loop-one-preserved g c =
    let m = g.R.WasmModuleResources.meaning c.args.resources.now in
    pushed_next m c.args.self.now c.loop-one.self c.push_operand.new.self c.args.types.now c.loop-one.one-index c.one-item.result c.loop-one-test.true (c.one-item.is ∙ get_or_default c.args.types.now c.loop-one.one-index _ _ c.loop-one-test.true) c.loop-one.invariant (c.in_ok-push_operand.ensures.does m)
