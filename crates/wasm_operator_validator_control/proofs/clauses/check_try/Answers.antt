use Rattle.std.proofs.Common.{false, refl, sym}
use Rattle.wasm_operators_immediates.specs.declared.frames.FrameKind.TheVariants as frames
use Rattle.wasm_operators_immediates.specs.declared.proposal.Proposal.TheVariants.{LegacyExceptions}
use Rattle.wasm_operator_validator_state.specs.Refusals.{kind_of, refused}
use Rattle.wasm_operator_validator_state.specs.laws.Entering.{enabled}
use Rattle.wasm_operator_validator_state.specs.laws.Checks.{checks_going}
use Rattle.wasm_operator_validator_control.proofs.Opening.{opener, not_opened}
use Rattle.wasm_operator_validator_control.proofs.TryClauses.{stopped_unless, try_op, try_needs}
use Rattle.wasm_operator_validator_control.proofs.clauses.check_try.Goals as goal

pub returns-in-Err : goal.returns-in-Err
returns-in-Err g c =
    let m = g.R.WasmModuleResources.meaning c.args.resources.now in
    rw c.unallowed_try.ensures
    (stopped_unless c.in-Err.refusal m c.args.validator.now (try_op c.args.blockty) LegacyExceptions false (refl, refl) (try_needs m c.args.validator.now c.args.blockty) c.in-Err.ensures.begins c.in-Err.ensures.stops)

pub returns-in-Err-check_block_type : goal.returns-in-Err-check_block_type
returns-in-Err-check_block_type g c =
    let m = g.R.WasmModuleResources.meaning c.args.resources.now in
    not_opened (kind_of c.in-Err-check_block_type.refusal) m c.args.validator.now (try_op c.args.blockty) frames.LegacyTry c.args.blockty LegacyExceptions refl refl c.in-Ok.ensures.begins
    (c.in-Err-check_block_type.ensures c.args.validator.now.given (sym c.features.ensures))

pub returns : goal.returns
returns g c =
    let m = g.R.WasmModuleResources.meaning c.args.resources.now in
    checks_going (refused c.open_frame.result) m c.args.validator.now c.open_frame.new.validator (try_op c.args.blockty) LegacyExceptions false c.in-Ok.ensures.begins
    (opener (refused c.open_frame.result) m c.args.validator.now c.open_frame.new.validator (try_op c.args.blockty) frames.LegacyTry c.args.blockty c.in-Ok-check_block_type.block_type refl refl
    (enabled c.args.validator.now (try_op c.args.blockty) LegacyExceptions false (refl, refl) c.in-Ok.ensures.begins)
    c.in-Ok.ensures.begins.framed (c.in-Ok-check_block_type.ensures c.args.validator.now.given (sym c.features.ensures)) (λ b. refl) c.open_frame.ensures.does)
    c.open_frame.ensures.given c.open_frame.ensures.failed c.open_frame.ensures.saved
