use Rattle.std.proofs.Common.{◌∙◌, Some, false, refl, sym}
use Rattle.wasm_operators_immediates.specs.declared.proposal.Proposal.TheVariants.{Mvp}
use Rattle.wasm_operators_immediates.specs.declared.frames.FrameKind.TheVariants as frames
use Rattle.wasm_operator_validator_state.specs.Refusals.{kind_of, refused}
use Rattle.wasm_operator_validator_state.specs.laws.Checks.{checks_going}
use Rattle.wasm_operator_validator_stacks.specs.determined.laws.Types.{i32_in}
use Rattle.wasm_operator_validator_control.proofs.Opening.{if_op, no_opener, if_opener, undecided_if}
use Rattle.wasm_operator_validator_control.proofs.frames.check_if.Goals as goal

pub returns-in-Err-check_block_type : goal.returns-in-Err-check_block_type
returns-in-Err-check_block_type g c =
    let m = g.R.WasmModuleResources.meaning c.args.resources.now in
    no_opener (kind_of c.in-Err-check_block_type.refusal) m c.args.validator.now (if_op c.args.blockty) frames.If c.args.blockty refl refl c.in-Ok.ensures.begins
    (c.in-Err-check_block_type.ensures c.args.validator.now.given (sym c.features.ensures))

pub returns-in-Err-pop_operand : goal.returns-in-Err-pop_operand
returns-in-Err-pop_operand g c =
    let m = g.R.WasmModuleResources.meaning c.args.resources.now in
    let r = kind_of c.in-Err-pop_operand.refusal in
    checks_going (Some r) m c.args.validator.now c.pop_operand.new.self (if_op c.args.blockty) Mvp false c.in-Ok.ensures.begins
    (undecided_if r m c.args.validator.now c.args.blockty c.in-Ok.ensures.begins.framed (rw (i32_in m) at c.in-Err-pop_operand.ensures.does))
    c.pop_operand.ensures.given c.pop_operand.ensures.failed c.pop_operand.ensures.saved

pub returns : goal.returns
returns g c =
    let m = g.R.WasmModuleResources.meaning c.args.resources.now in
    checks_going (refused c.open_frame.result) m c.args.validator.now c.open_frame.new.validator (if_op c.args.blockty) Mvp false c.in-Ok.ensures.begins
    (if_opener (refused c.open_frame.result) m c.args.validator.now c.pop_operand.new.self c.open_frame.new.validator c.args.blockty c.in-Ok-check_block_type.block_type
    (c.in-Ok-check_block_type.ensures c.args.validator.now.given (sym c.features.ensures)) (rw (i32_in m) at c.in-Ok-pop_operand.ensures.does)
    c.in-Ok.ensures.begins.framed c.open_frame.ensures.does)
    (c.open_frame.ensures.given ∙ c.pop_operand.ensures.given) (c.open_frame.ensures.failed ∙ c.pop_operand.ensures.failed) (c.open_frame.ensures.saved ∙ c.pop_operand.ensures.saved)
