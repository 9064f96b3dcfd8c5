use Rattle.std.proofs.Common.{◌∙◌, false, refl}
use Rattle.wasm_operators_immediates.specs.declared.proposal.Proposal.TheVariants.{LegacyExceptions}
use Rattle.wasm_operator_validator_state.specs.Refusals.{kind_of, refused}
use Rattle.wasm_operator_validator_state.specs.laws.Clauses.{delegate}
use Rattle.wasm_operator_validator_stacks.specs.determined.laws.Usable.{fails}
use Rattle.wasm_operator_validator_control.proofs.Ending.{is_top}
use Rattle.wasm_operator_validator_control.proofs.TryClauses.{stopped_unless, delegate_needs, delegate_outside, delegate_unfinished, delegate_nowhere, delegate_pushed}
use Rattle.wasm_operator_validator_control.proofs.clauses.check_delegate.Goals as goal

pub returns-in-Err : goal.returns-in-Err
returns-in-Err g c =
    let m = g.R.WasmModuleResources.meaning c.args.resources.now in
    stopped_unless c.in-Err.refusal m c.args.validator.now (delegate c.args.relative_depth) LegacyExceptions false (refl, refl) (delegate_needs m c.args.validator.now c.args.relative_depth)
    c.in-Err.ensures.begins c.in-Err.ensures.stops

pub returns-then-not-is_bare_try : goal.returns-then-not-is_bare_try
returns-then-not-is_bare_try g c =
    let m = g.R.WasmModuleResources.meaning c.args.resources.now in
    delegate_outside _ m c.args.validator.now c.args.relative_depth c.in-Some.block_type c.in-Some.kind c.in-Ok.ensures.begins
    (is_top c.args.validator.now.opens c.in-Some.block_type c.in-Some.kind c.in-Some.ensures) (fails c.is_bare_try.result c.is_bare_try.ensures c.if-not-is_bare_try.true)

pub returns-in-Err-finish_frame : goal.returns-in-Err-finish_frame
returns-in-Err-finish_frame g c =
    let m = g.R.WasmModuleResources.meaning c.args.resources.now in
    delegate_unfinished (kind_of c.in-Err-finish_frame.refusal) m c.args.validator.now c.finish_frame.new.validator c.args.relative_depth c.in-Some.block_type c.in-Some.kind c.in-Ok.ensures.begins
    (is_top c.args.validator.now.opens c.in-Some.block_type c.in-Some.kind c.in-Some.ensures) c.in-Err-finish_frame.ensures.does
    (record { given = c.finish_frame.ensures.given; failed = c.finish_frame.ensures.failed; saved = c.finish_frame.ensures.saved })

pub returns-in_default-jump : goal.returns-in_default-jump
returns-in_default-jump g c =
    let m = g.R.WasmModuleResources.meaning c.args.resources.now in
    delegate_nowhere _ m c.args.validator.now c.finish_frame.new.validator c.args.relative_depth c.in-Some.block_type c.in-Ok.ensures.begins c.in-Ok-finish_frame.ensures.does c.in_default-jump.ensures
    (record { given = c.finish_frame.ensures.given; failed = c.finish_frame.ensures.failed; saved = c.finish_frame.ensures.saved })

pub returns : goal.returns
returns g c =
    let m = g.R.WasmModuleResources.meaning c.args.resources.now in
    delegate_pushed (refused c.push_operands.result) m c.args.validator.now c.finish_frame.new.validator c.push_operands.new.self c.args.relative_depth c.in-Some.block_type c.in-Some.kind
    c.in-Some-jump.field-0-0 c.in-Some-jump.field-0-1 c.in-Ok.ensures.begins (is_top c.args.validator.now.opens c.in-Some.block_type c.in-Some.kind c.in-Some.ensures)
    (c.is_bare_try.ensures.0 c.if-not-is_bare_try.false) c.in-Ok-finish_frame.ensures.does c.in-Some-jump.ensures (rw c.block_results.ensures at c.push_operands.ensures.does)
    (record {
      given = c.push_operands.ensures.given ∙ c.finish_frame.ensures.given;
      failed = c.push_operands.ensures.failed ∙ c.finish_frame.ensures.failed;
      saved = c.push_operands.ensures.saved ∙ c.finish_frame.ensures.saved;
    })
