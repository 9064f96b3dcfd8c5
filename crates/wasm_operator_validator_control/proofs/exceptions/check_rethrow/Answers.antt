use Rattle.std.proofs.Common.{false, [], refl, sym, ap, ◌∙◌, Some}
use Rattle.wasm_operators_immediates.specs.declared.proposal.Proposal.TheVariants.{LegacyExceptions}
use Rattle.wasm_operator_validator_state.specs.Refusals.{refused}
use Rattle.wasm_operator_validator_stacks.specs.determined.laws.Determined.{not_begun, refused_here}
use Rattle.wasm_operator_validator_control.specs.laws.Jumping.{by_last}
use Rattle.wasm_operator_validator_control.proofs.ThrowRows.{rethrow, rethrow_is, rethrow_last, rethrow_nowhere, rethrow_outside, catch_at}
use Rattle.wasm_operator_validator_control.proofs.exceptions.check_rethrow.Goals as goal

pub returns-in-Err : goal.returns-in-Err
returns-in-Err g c =
    let m = g.R.WasmModuleResources.meaning c.args.resources.now in
    not_begun c.in-Err.refusal m c.args.validator.now (rethrow c.args.relative_depth) LegacyExceptions false (rethrow_is c.args.relative_depth) c.in-Err.ensures.begins c.in-Err.ensures.stops

pub returns-in_default : goal.returns-in_default
returns-in_default g c =
    let m = g.R.WasmModuleResources.meaning c.args.resources.now in
    refused_here _ m c.args.validator.now (rethrow c.args.relative_depth) LegacyExceptions false c.in-Ok.ensures.begins
    (rethrow_nowhere m c.args.validator.now c.args.relative_depth c.in-Ok.ensures.begins c.in_default.ensures)

pub returns-then-not-catches : goal.returns-then-not-catches
returns-then-not-catches g c =
    let m = g.R.WasmModuleResources.meaning c.args.resources.now in
    refused_here _ m c.args.validator.now (rethrow c.args.relative_depth) LegacyExceptions false c.in-Ok.ensures.begins
    (rethrow_outside m c.args.validator.now c.args.relative_depth c.in-Some.field-0-0 c.in-Some.kind c.in-Ok.ensures.begins c.in-Some.ensures (sym c.catches.ensures ∙ c.if-not-catches.true))

pub returns : goal.returns
returns g c =
    let m = g.R.WasmModuleResources.meaning c.args.resources.now in
    by_last (refused c.jump_with.result) m c.args.validator.now c.jump_with.new.validator (rethrow c.args.relative_depth) LegacyExceptions false [] (rethrow_is c.args.relative_depth) c.in-Ok.ensures.begins
    (λ set. refl)
    (rethrow_last m c.args.validator.now c.args.relative_depth
    (catch_at c.args.validator.now.opens c.args.relative_depth c.in-Some.field-0-0 c.in-Some.kind c.in-Some.ensures ∙ ap Some (sym c.catches.ensures ∙ c.if-not-catches.false)))
    c.jump_with.ensures.does (record { given = c.jump_with.ensures.given; failed = c.jump_with.ensures.failed; saved = c.jump_with.ensures.saved })
