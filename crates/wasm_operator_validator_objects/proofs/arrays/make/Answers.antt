use Rattle.std.proofs.Common.{Some, [], ◌∷◌, replicate}
use Rattle.wasm_operator_validator_state.specs.State.{types_in}
use Rattle.wasm_operator_validator_state.specs.Refusals.{kind_of, refused}
use Rattle.wasm_operator_validator_stacks.specs.determined.laws.Same.{stays_trans}
use Rattle.wasm_operator_validator_resources.specs.Meaning.{type_in}
use Rattle.wasm_operator_validator_objects.proofs.Tables.{exchanged_row, popped_then}
use Rattle.wasm_operator_validator_objects.proofs.arrays.make.Goals as goal

pub returns-in-Err : goal.returns-in-Err
returns-in-Err g c =
    let m = g.R.WasmModuleResources.meaning c.args.resources.now in
    exchanged_row (Some (kind_of c.in-Err.refusal)) m c.args.validator.now c.pop_same.new.validator c.args.op.now (replicate c.args.count (type_in m c.args.element.now)) (types_in m (c.args.made.now ∷ [])) c.requires.begun c.requires.row c.in-Err.ensures.does
    (record { given = c.pop_same.ensures.given; failed = c.pop_same.ensures.failed; saved = c.pop_same.ensures.saved })

pub returns : goal.returns
returns g c =
    let m = g.R.WasmModuleResources.meaning c.args.resources.now in
    exchanged_row (refused c.push_operands.result) m c.args.validator.now c.push_operands.new.self c.args.op.now (replicate c.args.count (type_in m c.args.element.now)) (types_in m (c.args.made.now ∷ [])) c.requires.begun c.requires.row
    (popped_then (refused c.push_operands.result) m c.args.validator.now c.pop_same.new.validator c.push_operands.new.self (replicate c.args.count (type_in m c.args.element.now)) (types_in m (c.args.made.now ∷ [])) c.in-Ok.ensures.does c.push_operands.ensures.does)
    (stays_trans c.args.validator.now c.pop_same.new.validator c.push_operands.new.self (record { given = c.pop_same.ensures.given; failed = c.pop_same.ensures.failed; saved = c.pop_same.ensures.saved }) (record { given = c.push_operands.ensures.given; failed = c.push_operands.ensures.failed; saved = c.push_operands.ensures.saved }))
