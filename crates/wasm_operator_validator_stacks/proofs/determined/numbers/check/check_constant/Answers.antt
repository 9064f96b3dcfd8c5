use Rattle.std.proofs.Common.{[], ◌∷◌}
use Rattle.wasm_operators_immediates.specs.declared.proposal.Proposal.TheVariants.{Mvp}
use Rattle.wasm_operators_enums.specs.Op as op
use Rattle.wasm_operator_validator_state.specs.resources.Meaning.{type_in}
use Rattle.wasm_operator_validator_state.specs.Refusals.{refused}
use Rattle.wasm_operator_validator_stacks.specs.determined.laws.Determined.{not_begun, given_only, determined}
use Rattle.wasm_operator_validator_stacks.proofs.NumberTypes.{constant_in_table, constant_type_is}
use Rattle.wasm_operator_validator_stacks.proofs.determined.numbers.check.check_constant.Goals as goal

pub returns-in-Err : goal.returns-in-Err
returns-in-Err g c =
    let t = constant_in_table c.args.op c.args.floats c.args.ty.now c.requires in
    not_begun c.in-Err.refusal (g.R.WasmModuleResources.meaning c.args.resources.now) c.args.validator.now (op.Const c.args.op) Mvp c.args.floats t.is c.in-Err.ensures.begins c.in-Err.ensures.stops

pub returns : goal.returns
returns g c =
    let m = g.R.WasmModuleResources.meaning c.args.resources.now in
    determined (refused c.push_operands.result) m c.args.validator.now c.push_operands.new.self (op.Const c.args.op) Mvp c.args.floats [] (c.args.ty.now ∷ [])
    (constant_in_table c.args.op c.args.floats c.args.ty.now c.requires) c.in-Ok.ensures.begins (constant_type_is m c.args.validator.now c.args.op c.args.floats c.args.ty.now c.requires)
    (given_only (refused c.push_operands.result) m c.args.validator.now c.push_operands.new.self (type_in m c.args.ty.now ∷ []) c.push_operands.ensures.does) (record { given = c.push_operands.ensures.given; failed = c.push_operands.ensures.failed; saved = c.push_operands.ensures.saved })
