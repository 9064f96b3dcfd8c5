use Rattle.std.proofs.Common.{false, refl, sym}
use Rattle.wasm_operators_immediates.specs.declared.proposal.Proposal.TheVariants.{Mvp}
use Rattle.wasm_operators_immediates.specs.declared.frames.FrameKind.TheVariants as frames
use Rattle.wasm_operators_enums.specs.declared.control.ControlOperator.TheVariants as control
use Rattle.wasm_operators_enums.specs.Op as op
use Rattle.wasm_operator_validator_state.specs.Refusals.{kind_of, refused}
use Rattle.wasm_operator_validator_state.specs.laws.Checks.{checks_going}
use Rattle.wasm_operator_validator_control.proofs.Opening.{opener, no_opener}
use Rattle.wasm_operator_validator_control.proofs.frames.check_loop.Goals as goal

pub returns-in-Err-check_block_type : goal.returns-in-Err-check_block_type
returns-in-Err-check_block_type g c =
    let m = g.R.WasmModuleResources.meaning c.args.resources.now in
    no_opener (kind_of c.in-Err-check_block_type.refusal) m c.args.validator.now (op.Control (control.Loop c.args.blockty)) frames.Loop c.args.blockty refl refl c.in-Ok.ensures.begins
    (c.in-Err-check_block_type.ensures c.args.validator.now.given (sym c.features.ensures))

pub returns : goal.returns
returns g c =
    let m = g.R.WasmModuleResources.meaning c.args.resources.now in
    checks_going (refused c.open_frame.result) m c.args.validator.now c.open_frame.new.validator (op.Control (control.Loop c.args.blockty)) Mvp false c.in-Ok.ensures.begins
    (opener (refused c.open_frame.result) m c.args.validator.now c.open_frame.new.validator (op.Control (control.Loop c.args.blockty)) frames.Loop c.args.blockty c.in-Ok-check_block_type.block_type refl refl tt
    c.in-Ok.ensures.begins.framed (c.in-Ok-check_block_type.ensures c.args.validator.now.given (sym c.features.ensures)) (λ b. refl) c.open_frame.ensures.does)
    c.open_frame.ensures.given c.open_frame.ensures.failed c.open_frame.ensures.saved
