use Rattle.std.proofs.Common.{[], ◌∷◌}
use Rattle.wasm_operators_immediates.specs.declared.proposal.Proposal.TheVariants.{Mvp}
use Rattle.wasm_operators_enums.specs.Op as op
use Rattle.wasm_operator_validator_state.specs.Refusals.{refused}
use Rattle.wasm_operator_validator_stacks.specs.determined.laws.Determined.{not_begun, determined}
use Rattle.wasm_operator_validator_stacks.proofs.NumberTypes.{numeric_in_table, numeric_type}
use Rattle.wasm_operator_validator_stacks.proofs.determined.numbers.check.check_two.Goals as goal

pub returns-in-Err : goal.returns-in-Err
returns-in-Err g c =
    let t = numeric_in_table c.args.op Mvp c.args.floats (c.args.takes.now ∷ c.args.takes.now ∷ []) (c.args.gives.now ∷ []) c.requires in
    not_begun c.in-Err.refusal (g.R.WasmModuleResources.meaning c.args.resources.now) c.args.validator.now (op.Numeric c.args.op) Mvp c.args.floats t.is c.in-Err.ensures.begins c.in-Err.ensures.stops

pub returns : goal.returns
returns g c =
    let m = g.R.WasmModuleResources.meaning c.args.resources.now in
    determined (refused c.combine.result) m c.args.validator.now c.combine.new.self (op.Numeric c.args.op) Mvp c.args.floats (c.args.takes.now ∷ c.args.takes.now ∷ []) (c.args.gives.now ∷ [])
    (numeric_in_table c.args.op Mvp c.args.floats (c.args.takes.now ∷ c.args.takes.now ∷ []) (c.args.gives.now ∷ []) c.requires) c.in-Ok.ensures.begins
    (numeric_type m c.args.validator.now c.args.op Mvp c.args.floats (c.args.takes.now ∷ c.args.takes.now ∷ []) (c.args.gives.now ∷ []) c.requires)
    c.combine.ensures.does (record { given = c.combine.ensures.given; failed = c.combine.ensures.failed; saved = c.combine.ensures.saved })
