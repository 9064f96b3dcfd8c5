use Rattle.std.proofs.Common.{◌∙◌, ap}
use Rattle.wasm_operator_validator_state.specs.Refusals.{kind_of, refused}
use Rattle.wasm_operator_validator_stacks.specs.determined.laws.Usable.{fails}
use Rattle.wasm_operator_validator_state.specs.State.{State}
use Rattle.wasm_operator_validator_control.proofs.Ending.{is_top, else_outside, else_unfinished, else_pushed}
use Rattle.wasm_operator_validator_control.proofs.frames.check_else.Goals as goal

pub returns-then-not-is_if : goal.returns-then-not-is_if
returns-then-not-is_if g c =
    let m = g.R.WasmModuleResources.meaning c.args.resources.now in
    else_outside _ m c.args.validator.now c.in-Some.block_type c.in-Some.kind c.in-Ok.ensures.begins (is_top c.args.validator.now.opens c.in-Some.block_type c.in-Some.kind c.in-Some.ensures)
    (fails c.is_if.result c.is_if.ensures c.if-not-is_if.true)

pub returns-in-Err-finish_frame : goal.returns-in-Err-finish_frame
returns-in-Err-finish_frame g c =
    let m = g.R.WasmModuleResources.meaning c.args.resources.now in
    else_unfinished (kind_of c.in-Err-finish_frame.refusal) m c.args.validator.now c.finish_frame.new.validator c.in-Some.block_type c.in-Some.kind c.in-Ok.ensures.begins
    (is_top c.args.validator.now.opens c.in-Some.block_type c.in-Some.kind c.in-Some.ensures) c.in-Err-finish_frame.ensures.does
    (record { given = c.finish_frame.ensures.given; failed = c.finish_frame.ensures.failed; saved = c.finish_frame.ensures.saved })

pub returns : goal.returns
returns g c =
    let m = g.R.WasmModuleResources.meaning c.args.resources.now in
    else_pushed (refused c.push_operands.result) m c.args.validator.now c.finish_frame.new.validator c.enter.new.self c.push_operands.new.self c.in-Some.block_type c.in-Some.kind c.in-Ok.ensures.begins
    (is_top c.args.validator.now.opens c.in-Some.block_type c.in-Some.kind c.in-Some.ensures) (c.is_if.ensures.0 c.if-not-is_if.false) c.in-Ok-finish_frame.ensures.does
    c.in-Ok-enter.ensures.entered (rw c.block_params.ensures at c.push_operands.ensures.does)
    (record {
      given = c.push_operands.ensures.given ∙ ap (λ (x : State). x.given) c.in-Ok-enter.ensures.entered ∙ c.finish_frame.ensures.given;
      failed = c.push_operands.ensures.failed ∙ ap (λ (x : State). x.failed) c.in-Ok-enter.ensures.entered ∙ c.finish_frame.ensures.failed;
      saved = c.push_operands.ensures.saved ∙ ap (λ (x : State). x.saved) c.in-Ok-enter.ensures.entered ∙ c.finish_frame.ensures.saved;
    })
