use Rattle.wasm_operator_validator_state.specs.Refusals.{refused, kind_of}
use Rattle.wasm_operator_validator_state.specs.State.{types_in}
use Rattle.wasm_operator_validator_state.specs.laws.Accepting.{same_open}
use Rattle.wasm_operator_validator_proposals.proofs.Stepping.{denied_above, exchanged_under}
use Rattle.wasm_operator_validator_proposals.proofs.steps.exchange_above.Goals as goal

pub returns-in-Err-clause-does : goal.returns-in-Err-clause-does
returns-in-Err-clause-does g c =
    let m = g.R.WasmModuleResources.meaning c.args.resources.now in
    denied_above (kind_of c.in-Err.refusal) m c.args.validator.now (types_in m c.args.under.now) (types_in m c.args.above.now) c.in-Err.ensures.does

pub exchange-requires : goal.exchange-requires
exchange-requires g c = (same_open c.args.validator.now.opens c.pop_operands.new.self.opens c.in-Ok.ensures.does.same.frames).1

pub returns-clause-does : goal.returns-clause-does
returns-clause-does g c =
    let m = g.R.WasmModuleResources.meaning c.args.resources.now in
    exchanged_under (refused c.exchange.result) m c.args.validator.now c.pop_operands.new.self c.exchange.new.self (types_in m c.args.under.now) (types_in m c.args.above.now) (types_in m c.args.gives.now) c.in-Ok.ensures.does c.exchange.ensures.does
