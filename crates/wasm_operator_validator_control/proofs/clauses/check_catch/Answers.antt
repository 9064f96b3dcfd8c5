use Rattle.std.proofs.Common.{◌∙◌, false, refl, ap}
use Rattle.wasm_operators_immediates.specs.declared.frames.FrameKind.TheVariants as frames
use Rattle.wasm_operators_immediates.specs.declared.proposal.Proposal.TheVariants.{LegacyExceptions}
use Rattle.wasm_operator_validator_state.specs.Refusals.{kind_of, refused}
use Rattle.wasm_operator_validator_state.specs.State.{State, types_in}
use Rattle.wasm_operator_validator_state.specs.laws.Clauses.{catch, catch_begins}
use Rattle.wasm_operator_validator_stacks.specs.determined.laws.Usable.{fails}
use Rattle.wasm_operator_validator_control.proofs.Ending.{is_top}
use Rattle.wasm_operator_validator_control.proofs.TryClauses.{stopped_unless, catch_needs, clause_outside, clause_unnamed, clause_unfinished, clause_pushed, catch_turns, no_catch}
use Rattle.wasm_operator_validator_control.proofs.clauses.check_catch.Goals as goal

pub returns-in-Err : goal.returns-in-Err
returns-in-Err g c =
    let m = g.R.WasmModuleResources.meaning c.args.resources.now in
    stopped_unless c.in-Err.refusal m c.args.validator.now (catch c.args.tag_index) LegacyExceptions false (refl, refl) (catch_needs m c.args.validator.now c.args.tag_index) c.in-Err.ensures.begins c.in-Err.ensures.stops

pub returns-then-not-is_try : goal.returns-then-not-is_try
returns-then-not-is_try g c =
    let m = g.R.WasmModuleResources.meaning c.args.resources.now in
    clause_outside _ m c.args.validator.now (catch c.args.tag_index) frames.LegacyCatch c.in-Some.block_type c.in-Some.kind (catch_begins c.args.tag_index) c.in-Ok.ensures.begins
    (is_top c.args.validator.now.opens c.in-Some.block_type c.in-Some.kind c.in-Some.ensures) (fails c.is_try.result c.is_try.ensures c.if-not-is_try.true)

pub returns-in-Err-exception_tag : goal.returns-in-Err-exception_tag
returns-in-Err-exception_tag g c =
    let m = g.R.WasmModuleResources.meaning c.args.resources.now in
    clause_unnamed _ m c.args.validator.now (catch c.args.tag_index) frames.LegacyCatch (catch_begins c.args.tag_index) c.in-Ok.ensures.begins
    (no_catch m c.args.validator.now c.args.tag_index c.in-Err-exception_tag.ensures)

pub returns-in-Err-finish_frame : goal.returns-in-Err-finish_frame
returns-in-Err-finish_frame g c =
    let m = g.R.WasmModuleResources.meaning c.args.resources.now in
    clause_unfinished (kind_of c.in-Err-finish_frame.refusal) m c.args.validator.now c.finish_frame.new.validator (catch c.args.tag_index) frames.LegacyCatch c.in-Some.block_type c.in-Some.kind
    (catch_begins c.args.tag_index) c.in-Ok.ensures.begins (is_top c.args.validator.now.opens c.in-Some.block_type c.in-Some.kind c.in-Some.ensures) c.in-Err-finish_frame.ensures.does
    (record { given = c.finish_frame.ensures.given; failed = c.finish_frame.ensures.failed; saved = c.finish_frame.ensures.saved })

pub returns : goal.returns
returns g c =
    let m = g.R.WasmModuleResources.meaning c.args.resources.now in
    let ts = types_in m c.in-Ok-exception_tag.tag.now.params in
    clause_pushed (refused c.push_operands.result) m c.args.validator.now c.finish_frame.new.validator c.enter.new.self c.push_operands.new.self (catch c.args.tag_index) frames.LegacyCatch
    c.in-Some.block_type c.in-Some.kind ts (catch_begins c.args.tag_index) c.in-Ok.ensures.begins (is_top c.args.validator.now.opens c.in-Some.block_type c.in-Some.kind c.in-Some.ensures)
    (c.is_try.ensures.0 c.if-not-is_try.false) (catch_turns m c.args.validator.now c.args.tag_index ts c.in-Ok.ensures.begins c.in-Ok-exception_tag.ensures) c.in-Ok-finish_frame.ensures.does
    c.in-Ok-enter.ensures.entered (rw c.params.ensures at c.push_operands.ensures.does)
    (record {
      given = c.push_operands.ensures.given ∙ ap (λ (x : State). x.given) c.in-Ok-enter.ensures.entered ∙ c.finish_frame.ensures.given;
      failed = c.push_operands.ensures.failed ∙ ap (λ (x : State). x.failed) c.in-Ok-enter.ensures.entered ∙ c.finish_frame.ensures.failed;
      saved = c.push_operands.ensures.saved ∙ ap (λ (x : State). x.saved) c.in-Ok-enter.ensures.entered ∙ c.finish_frame.ensures.saved;
    })
