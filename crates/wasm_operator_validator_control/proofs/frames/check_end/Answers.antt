use Rattle.std.proofs.Common.{◌∙◌}
use Rattle.wasm_operator_validator_state.specs.Refusals.{kind_of, refused}
use Rattle.wasm_operator_validator_stacks.specs.determined.laws.Usable.{fails}
use Rattle.wasm_operator_validator_control.proofs.Ending.{is_top, end_unfinished, end_without_else, end_last, end_pushed}
use Rattle.wasm_operator_validator_control.proofs.frames.check_end.Goals as goal

pub returns-in-Err-finish_frame : goal.returns-in-Err-finish_frame
returns-in-Err-finish_frame g c =
    let m = g.R.WasmModuleResources.meaning c.args.resources.now in
    end_unfinished (kind_of c.in-Err-finish_frame.refusal) m c.args.validator.now c.finish_frame.new.validator c.in-Some.block_type c.in-Some.kind c.in-Ok.ensures.begins
    (is_top c.args.validator.now.opens c.in-Some.block_type c.in-Some.kind c.in-Some.ensures) c.in-Err-finish_frame.ensures.does
    (record { given = c.finish_frame.ensures.given; failed = c.finish_frame.ensures.failed; saved = c.finish_frame.ensures.saved })

pub returns-then-not-may_close : goal.returns-then-not-may_close
returns-then-not-may_close g c =
    let m = g.R.WasmModuleResources.meaning c.args.resources.now in
    end_without_else _ m c.args.validator.now c.finish_frame.new.validator c.in-Some.block_type c.in-Some.kind c.in-Ok.ensures.begins
    (is_top c.args.validator.now.opens c.in-Some.block_type c.in-Some.kind c.in-Some.ensures) (fails c.may_close.result c.may_close.ensures c.if-not-may_close.true)
    (record { given = c.finish_frame.ensures.given; failed = c.finish_frame.ensures.failed; saved = c.finish_frame.ensures.saved })

pub returns-then-is_done : goal.returns-then-is_done
returns-then-is_done g c =
    let m = g.R.WasmModuleResources.meaning c.args.resources.now in
    end_last m c.args.validator.now c.finish_frame.new.validator c.in-Some.block_type c.in-Some.kind c.in-Ok.ensures.begins
    (is_top c.args.validator.now.opens c.in-Some.block_type c.in-Some.kind c.in-Some.ensures) c.in-Ok-finish_frame.ensures.does (c.may_close.ensures.0 c.if-not-may_close.false)
    (c.is_done.ensures.0 c.if-is_done.true)
    (record { given = c.finish_frame.ensures.given; failed = c.finish_frame.ensures.failed; saved = c.finish_frame.ensures.saved })

pub returns : goal.returns
returns g c =
    let m = g.R.WasmModuleResources.meaning c.args.resources.now in
    end_pushed (refused c.push_operands.result) m c.args.validator.now c.finish_frame.new.validator c.push_operands.new.self c.in-Some.block_type c.in-Some.kind c.in-Ok.ensures.begins
    (is_top c.args.validator.now.opens c.in-Some.block_type c.in-Some.kind c.in-Some.ensures) c.in-Ok-finish_frame.ensures.does (c.may_close.ensures.0 c.if-not-may_close.false)
    (rw c.block_results-2.ensures at c.push_operands.ensures.does)
    (record {
      given = c.push_operands.ensures.given ∙ c.finish_frame.ensures.given;
      failed = c.push_operands.ensures.failed ∙ c.finish_frame.ensures.failed;
      saved = c.push_operands.ensures.saved ∙ c.finish_frame.ensures.saved;
    })
