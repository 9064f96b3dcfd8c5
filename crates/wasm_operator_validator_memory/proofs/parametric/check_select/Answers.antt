use Rattle.std.proofs.Common.{false}
use Rattle.wasm_operators_immediates.specs.declared.proposal.Proposal.TheVariants.{Mvp}
use Rattle.wasm_operator_validator_state.specs.Refusals.{kind_of, refused}
use Rattle.wasm_operator_validator_state.specs.laws.Accepting.{same_open}
use Rattle.wasm_operator_validator_stacks.specs.determined.laws.Determined.{not_begun}
use Rattle.wasm_operator_validator_memory.proofs.Selecting.{select_op, select_is, no_choice, no_second, no_first, not_chosen, put_on}
use Rattle.wasm_operator_validator_memory.proofs.parametric.check_select.Goals as goal

pub returns-in-Err : goal.returns-in-Err
returns-in-Err g c =
    not_begun c.in-Err.refusal (g.R.WasmModuleResources.meaning c.args.resources.now) c.args.validator.now select_op Mvp false select_is c.in-Err.ensures.begins c.in-Err.ensures.stops

pub returns-in-Err-pop_operand : goal.returns-in-Err-pop_operand
returns-in-Err-pop_operand g c =
    let m = g.R.WasmModuleResources.meaning c.args.resources.now in
    no_choice (kind_of c.in-Err-pop_operand.refusal) m c.args.validator.now c.pop_operand.new.self c.in-Ok.ensures.begins c.in-Err-pop_operand.ensures.does
    (record { given = c.pop_operand.ensures.given; failed = c.pop_operand.ensures.failed; saved = c.pop_operand.ensures.saved })

pub returns-in-Err-pop_any : goal.returns-in-Err-pop_any
returns-in-Err-pop_any g c =
    let m = g.R.WasmModuleResources.meaning c.args.resources.now in
    no_second (kind_of c.in-Err-pop_any.refusal) m c.args.validator.now c.pop_operand.new.self c.pop_any.new.self c.in-Ok.ensures.begins c.in-Ok-pop_operand.ensures.does (c.in-Err-pop_any.ensures.does m)
    (record { given = c.pop_any.ensures.given; failed = c.pop_any.ensures.failed; saved = c.pop_any.ensures.saved })

pub returns-in-Err-pop_any-2 : goal.returns-in-Err-pop_any-2
returns-in-Err-pop_any-2 g c =
    let m = g.R.WasmModuleResources.meaning c.args.resources.now in
    no_first (kind_of c.in-Err-pop_any-2.refusal) m c.args.validator.now c.pop_operand.new.self c.pop_any.new.self c.pop_any-2.new.self c.in-Ok-pop_any.second c.in-Ok.ensures.begins c.in-Ok-pop_operand.ensures.does
    (c.in-Ok-pop_any.ensures.does m) (c.in-Err-pop_any-2.ensures.does m)
    (record { given = c.pop_any-2.ensures.given; failed = c.pop_any-2.ensures.failed; saved = c.pop_any-2.ensures.saved })

pub returns-in-Err-chosen : goal.returns-in-Err-chosen
returns-in-Err-chosen g c =
    let m = g.R.WasmModuleResources.meaning c.args.resources.now in
    not_chosen (kind_of c.in-Err-chosen.refusal) m c.args.validator.now c.pop_operand.new.self c.pop_any.new.self c.pop_any-2.new.self c.in-Ok-pop_any-2.first c.in-Ok-pop_any.second c.in-Ok.ensures.begins c.in-Ok-pop_operand.ensures.does
    (c.in-Ok-pop_any.ensures.does m) (c.in-Ok-pop_any-2.ensures.does m) c.in-Err-chosen.ensures

pub returns : goal.returns
returns g c =
    let m = g.R.WasmModuleResources.meaning c.args.resources.now in
    put_on (refused c.push_operand.result) m c.args.validator.now c.pop_operand.new.self c.pop_any.new.self c.pop_any-2.new.self c.push_operand.new.self c.in-Ok-pop_any-2.first c.in-Ok-pop_any.second c.in-Ok-chosen.choice
    c.in-Ok.ensures.begins c.in-Ok-pop_operand.ensures.does (c.in-Ok-pop_any.ensures.does m) (c.in-Ok-pop_any-2.ensures.does m) c.in-Ok-chosen.ensures (c.push_operand.ensures.does m)
    (record { given = c.push_operand.ensures.given; failed = c.push_operand.ensures.failed; saved = c.push_operand.ensures.saved })

pub push_operand-requires : goal.push_operand-requires
push_operand-requires g c =
    let m = g.R.WasmModuleResources.meaning c.args.resources.now in
    (same_open c.pop_any.new.self.opens c.pop_any-2.new.self.opens (c.in-Ok-pop_any-2.ensures.does m).same.frames).1
