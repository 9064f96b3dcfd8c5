use Rattle.wasm_operators_enums.specs.Op as op
use Rattle.wasm_operator_validator_state.specs.Refusals.{refused}
use Rattle.wasm_operator_validator_stacks.specs.determined.laws.Determined.{determined}
use Rattle.wasm_operator_validator_vectors.proofs.Vectors.{numeric_on, numeric_type}
use Rattle.wasm_operator_validator_vectors.proofs.lanes.check_numeric.Goals as goal

pub returns-in-Err : goal.returns-in-Err
returns-in-Err g c =
    c.in-Err.ensures.stops (g.R.WasmModuleResources.meaning c.args.resources.now) (op.SimdNumeric c.args.op)
    (numeric_on c.args.op c.args.proposal c.args.floats c.args.takes.now c.args.gives.now c.requires)

pub returns : goal.returns
returns g c =
    let m = g.R.WasmModuleResources.meaning c.args.resources.now in
    determined (refused c.exchange.result) m c.args.validator.now c.exchange.new.self (op.SimdNumeric c.args.op) c.args.proposal c.args.floats c.args.takes.now c.args.gives.now
    (numeric_on c.args.op c.args.proposal c.args.floats c.args.takes.now c.args.gives.now c.requires).table c.in-Ok.ensures.begins.0
    (numeric_type m c.args.validator.now c.args.op c.args.proposal c.args.floats c.args.takes.now c.args.gives.now c.requires c.in-Ok.ensures.begins.1) c.exchange.ensures.does
    (record { given = c.exchange.ensures.given; failed = c.exchange.ensures.failed; saved = c.exchange.ensures.saved })
