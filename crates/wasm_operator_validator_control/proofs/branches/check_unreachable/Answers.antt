use Rattle.std.proofs.Common.{[], false, refl}
use Rattle.wasm_operators_immediates.specs.declared.proposal.Proposal.TheVariants.{Mvp}
use Rattle.wasm_operator_validator_state.specs.Refusals.{refused}
use Rattle.wasm_operator_validator_control.specs.laws.Jumping.{by_last}
use Rattle.wasm_operator_validator_control.proofs.BranchRows.{unreachable, unreachable_is, unreachable_last}
use Rattle.wasm_operator_validator_control.proofs.branches.check_unreachable.Goals as goal

pub returns : goal.returns
returns g c =
    let m = g.R.WasmModuleResources.meaning c.args.resources.now in
    by_last (refused c.jump_with.result) m c.args.validator.now c.jump_with.new.validator unreachable Mvp false [] unreachable_is c.in-Ok.ensures.begins
    (λ set. refl) (unreachable_last m c.args.validator.now) c.jump_with.ensures.does (record { given = c.jump_with.ensures.given; failed = c.jump_with.ensures.failed; saved = c.jump_with.ensures.saved })
