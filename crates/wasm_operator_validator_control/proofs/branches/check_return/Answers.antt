use Rattle.std.proofs.Common.{false, refl}
use Rattle.wasm_operators_immediates.specs.declared.proposal.Proposal.TheVariants.{Mvp}
use Rattle.wasm_operator_validator_state.specs.Refusals.{refused}
use Rattle.wasm_operator_validator_state.specs.State.{signature_of}
use Rattle.wasm_operator_validator_control.specs.laws.Jumping.{by_last}
use Rattle.wasm_operator_validator_control.specs.laws.Labels.{outermost_at}
use Rattle.wasm_operator_validator_control.proofs.BranchRows.{return, return_is, return_last}
use Rattle.wasm_operator_validator_control.proofs.branches.check_return.Goals as goal

pub returns : goal.returns
returns g c =
    let m = g.R.WasmModuleResources.meaning c.args.resources.now in
    let ts = (signature_of m c.in-Some.block_type).results in
    by_last (refused c.jump_with.result) m c.args.validator.now c.jump_with.new.validator return Mvp false ts return_is c.in-Ok.ensures.begins
    (λ set. refl) (return_last m c.args.validator.now ts (outermost_at m c.args.validator.now.opens c.in-Some.block_type c.in-Some.field-0-1 c.in-Some.ensures))
    (rw c.block_results-types.ensures at c.jump_with.ensures.does) (record { given = c.jump_with.ensures.given; failed = c.jump_with.ensures.failed; saved = c.jump_with.ensures.saved })
