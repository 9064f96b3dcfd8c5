use Rattle.wasm_operator_validator_state.specs.Refusals.{refused}
use Rattle.wasm_operator_validator_state.specs.State.{types_in}
use Rattle.wasm_operator_validator_objects.proofs.Tables.{exchanged_row}
use Rattle.wasm_operator_validator_objects.proofs.steps.exchange.Goals as goal

pub returns : goal.returns
returns g c =
    let m = g.R.WasmModuleResources.meaning c.args.resources.now in
    exchanged_row (refused c.exchange.result) m c.args.validator.now c.exchange.new.self c.args.op.now (types_in m c.args.takes.now) (types_in m c.args.gives.now) c.requires.begun c.requires.row c.exchange.ensures.does
    (record { given = c.exchange.ensures.given; failed = c.exchange.ensures.failed; saved = c.exchange.ensures.saved })
