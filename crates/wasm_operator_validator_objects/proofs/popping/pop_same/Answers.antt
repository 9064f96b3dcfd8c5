use Rattle.std.proofs.Common.{◌-◌, suc, ◌≡◌, arith}
use Rattle.wasm_operator_validator_state.specs.Refusals.{kind_of}
use Rattle.wasm_operator_validator_resources.specs.Meaning.{type_in}
use Rattle.wasm_operator_validator_objects.proofs.Leading.{same_nowhere}
use Rattle.wasm_operator_validator_objects.proofs.popping.pop_same.Goals as goal

pub returns-in-Err-clause-does : goal.returns-in-Err-clause-does
returns-in-Err-clause-does g c =
    let m = g.R.WasmModuleResources.meaning c.args.resources.now in
    let e : c.loop-left.left ≡ suc (c.loop-left.left - 1) = omega (arith, c.loop-left-test.true) in
    same_nowhere (kind_of c.in-Err.refusal) m c.args.validator.now c.loop-left.validator c.args.count c.loop-left.left (c.loop-left.left - 1) (type_in m c.args.ty.now) c.loop-left.invariant e c.in-Err.ensures.does
