use Rattle.std.proofs.Common.{Some, None, [], ◌∷◌, ◌++◌}
use Rattle.wasm_types.specs.decoding.DenialLaws.{denies_from}
use Rattle.wasm_operator_validator_resources.specs.Meaning.{type_in}
use Rattle.wasm_operator_validator_state.specs.Refusals.{kind_of, refused}
use Rattle.wasm_operator_validator_state.specs.State.{types_in}
use Rattle.wasm_operator_validator_stacks.specs.determined.laws.Same.{stays_trans}
use Rattle.wasm_operator_validator_state.specs.laws.Accepting.{same_open}
use Rattle.wasm_operator_validator_control.specs.laws.Jumping.{pops_last, exchanged_more}
use Rattle.wasm_operator_validator_objects.proofs.Tables.{exchanged_row}
use Rattle.wasm_operator_validator_objects.proofs.Casting.{pushed_above}
use Rattle.wasm_operator_validator_objects.proofs.casts.branch.Goals as goal

pub returns-in-Err : goal.returns-in-Err
returns-in-Err g c =
    let m = g.R.WasmModuleResources.meaning c.args.resources.now in
    exchanged_row (Some (kind_of c.in-Err.refusal)) m c.args.validator.now c.pop_operand.new.self c.args.op.now (types_in m c.args.others.now ++ type_in m c.args.cast.now ∷ []) (types_in m c.args.others.now ++ type_in m c.args.left.now ∷ []) c.requires.begun c.requires.row
    (denies_from (kind_of c.in-Err.refusal) _ _ (pops_last m c.args.validator.now (type_in m c.args.cast.now) (types_in m c.args.others.now)) c.in-Err.ensures.does) (record { given = c.pop_operand.ensures.given; failed = c.pop_operand.ensures.failed; saved = c.pop_operand.ensures.saved })

pub returns-in-Err-exchange : goal.returns-in-Err-exchange
returns-in-Err-exchange g c =
    let m = g.R.WasmModuleResources.meaning c.args.resources.now in
    exchanged_row (Some (kind_of c.in-Err-exchange.refusal)) m c.args.validator.now c.exchange.new.self c.args.op.now (types_in m c.args.others.now ++ type_in m c.args.cast.now ∷ []) (types_in m c.args.others.now ++ type_in m c.args.left.now ∷ []) c.requires.begun c.requires.row
    (exchanged_more (Some (kind_of c.in-Err-exchange.refusal)) m c.args.validator.now c.pop_operand.new.self c.exchange.new.self (type_in m c.args.cast.now) (types_in m c.args.others.now) (types_in m c.args.others.now ++ type_in m c.args.left.now ∷ []) c.in-Ok.ensures.does c.in-Err-exchange.ensures.does)
    (stays_trans c.args.validator.now c.pop_operand.new.self c.exchange.new.self (record { given = c.pop_operand.ensures.given; failed = c.pop_operand.ensures.failed; saved = c.pop_operand.ensures.saved }) (record { given = c.exchange.ensures.given; failed = c.exchange.ensures.failed; saved = c.exchange.ensures.saved }))

pub exchange-requires : goal.exchange-requires
exchange-requires g c =
    let m = g.R.WasmModuleResources.meaning c.args.resources.now in
    (same_open c.args.validator.now.opens c.pop_operand.new.self.opens c.in-Ok.ensures.does.same.frames).1

pub push_operands-requires : goal.push_operands-requires
push_operands-requires g c =
    let m = g.R.WasmModuleResources.meaning c.args.resources.now in
    (same_open c.pop_operand.new.self.opens c.exchange.new.self.opens c.in-Ok-exchange.ensures.does.same.frames).1

pub returns : goal.returns
returns g c =
    let m = g.R.WasmModuleResources.meaning c.args.resources.now in
    exchanged_row (refused c.push_operands.result) m c.args.validator.now c.push_operands.new.self c.args.op.now (types_in m c.args.others.now ++ type_in m c.args.cast.now ∷ []) (types_in m c.args.others.now ++ type_in m c.args.left.now ∷ []) c.requires.begun c.requires.row
    (pushed_above (refused c.push_operands.result) m c.args.validator.now c.exchange.new.self c.push_operands.new.self (types_in m c.args.others.now ++ type_in m c.args.cast.now ∷ []) (types_in m c.args.others.now) (type_in m c.args.left.now)
    (exchanged_more None m c.args.validator.now c.pop_operand.new.self c.exchange.new.self (type_in m c.args.cast.now) (types_in m c.args.others.now) (types_in m c.args.others.now) c.in-Ok.ensures.does c.in-Ok-exchange.ensures.does) c.push_operands.ensures.does)
    (stays_trans c.args.validator.now c.exchange.new.self c.push_operands.new.self (stays_trans c.args.validator.now c.pop_operand.new.self c.exchange.new.self (record { given = c.pop_operand.ensures.given; failed = c.pop_operand.ensures.failed; saved = c.pop_operand.ensures.saved }) (record { given = c.exchange.ensures.given; failed = c.exchange.ensures.failed; saved = c.exchange.ensures.saved })) (record { given = c.push_operands.ensures.given; failed = c.push_operands.ensures.failed; saved = c.push_operands.ensures.saved }))
