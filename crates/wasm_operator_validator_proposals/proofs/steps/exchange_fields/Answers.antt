use Rattle.std.proofs.Common.{[], ◌∷◌}
use Rattle.wasm_operator_validator_resources.specs.Meaning.{type_in}
use Rattle.wasm_operator_validator_state.specs.Refusals.{refused, kind_of}
use Rattle.wasm_operator_validator_state.specs.State.{types_in}
use Rattle.wasm_operator_validator_state.specs.laws.Accepting.{same_open}
use Rattle.wasm_operator_validator_objects.specs.Found.{unpacked_fields}
use Rattle.wasm_operator_validator_objects.proofs.Tables.{popped_then}
use Rattle.wasm_operator_validator_proposals.proofs.Stepping.{denied_above, denied_under, exchanged_under}
use Rattle.wasm_operator_validator_proposals.proofs.steps.exchange_fields.Goals as goal

pub returns-in-Err-clause-does : goal.returns-in-Err-clause-does
returns-in-Err-clause-does g c =
    let m = g.R.WasmModuleResources.meaning c.args.resources.now in
    denied_above (kind_of c.in-Err.refusal) m c.args.validator.now (types_in m (unpacked_fields c.args.fields.now)) (type_in m c.args.above.now ∷ []) c.in-Err.ensures.does

pub pop_fields-requires : goal.pop_fields-requires
pop_fields-requires g c = (same_open c.args.validator.now.opens c.pop_operand.new.self.opens c.in-Ok.ensures.does.same.frames).1

pub returns-in-Err-pop_fields-clause-does : goal.returns-in-Err-pop_fields-clause-does
returns-in-Err-pop_fields-clause-does g c =
    let m = g.R.WasmModuleResources.meaning c.args.resources.now in
    denied_under (kind_of c.in-Err-pop_fields.refusal) m c.args.validator.now c.pop_operand.new.self (types_in m (unpacked_fields c.args.fields.now)) (type_in m c.args.above.now ∷ []) c.in-Ok.ensures.does c.in-Err-pop_fields.ensures.does

pub push_operands-requires : goal.push_operands-requires
push_operands-requires g c = (same_open c.pop_operand.new.self.opens c.pop_fields.new.validator.opens c.in-Ok-pop_fields.ensures.does.same.frames).1

pub returns-clause-does : goal.returns-clause-does
returns-clause-does g c =
    let m = g.R.WasmModuleResources.meaning c.args.resources.now in
    exchanged_under (refused c.push_operands.result) m c.args.validator.now c.pop_operand.new.self c.push_operands.new.self (types_in m (unpacked_fields c.args.fields.now)) (type_in m c.args.above.now ∷ []) (types_in m (c.args.made.now ∷ [])) c.in-Ok.ensures.does
    (popped_then (refused c.push_operands.result) m c.pop_operand.new.self c.pop_fields.new.validator c.push_operands.new.self (types_in m (unpacked_fields c.args.fields.now)) (types_in m (c.args.made.now ∷ [])) c.in-Ok-pop_fields.ensures.does c.push_operands.ensures.does)
