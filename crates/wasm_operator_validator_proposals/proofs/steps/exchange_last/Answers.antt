use Rattle.std.proofs.Common.{[], ◌∷◌, ◌++◌}
use Rattle.wasm_operator_validator_resources.specs.Meaning.{type_in}
use Rattle.wasm_operator_validator_state.specs.Refusals.{refused}
use Rattle.wasm_operator_validator_state.specs.State.{types_in}
use Rattle.wasm_operator_validator_state.specs.laws.Accepting.{same_open}
use Rattle.wasm_operator_validator_objects.proofs.Casting.{pushed_above}
use Rattle.wasm_operator_validator_proposals.proofs.steps.exchange_last.Goals as goal

pub push_operands-requires : goal.push_operands-requires
push_operands-requires g c = (same_open c.args.validator.now.opens c.exchange_above.new.validator.opens c.in-Ok.ensures.does.same.frames).1

pub returns-clause-does : goal.returns-clause-does
returns-clause-does g c =
    let m = g.R.WasmModuleResources.meaning c.args.resources.now in
    pushed_above (refused c.push_operands.result) m c.args.validator.now c.exchange_above.new.validator c.push_operands.new.self (types_in m c.args.others.now ++ types_in m c.args.above.now) (types_in m c.args.others.now) (type_in m c.args.left.now) c.in-Ok.ensures.does c.push_operands.ensures.does
