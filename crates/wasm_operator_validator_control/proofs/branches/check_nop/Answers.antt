use Rattle.std.proofs.Common.{[], false, refl}
use Rattle.wasm_operators_immediates.specs.declared.proposal.Proposal.TheVariants.{Mvp}
use Rattle.wasm_operator_validator_state.specs.Refusals.{refused}
use Rattle.wasm_operator_validator_stacks.specs.determined.laws.Determined.{by_types}
use Rattle.wasm_operator_validator_control.proofs.BranchRows.{nop, nop_is}
use Rattle.wasm_operator_validator_control.proofs.branches.check_nop.Goals as goal

pub returns : goal.returns
returns g c =
    by_types (refused c.exchange.result) (g.R.WasmModuleResources.meaning c.args.resources.now) c.args.validator.now c.exchange.new.self nop Mvp false [] [] nop_is c.in-Ok.ensures.begins
    (λ set. refl) (λ popped pushed. (λ x. x, λ x. x)) c.exchange.ensures.does (record { given = c.exchange.ensures.given; failed = c.exchange.ensures.failed; saved = c.exchange.ensures.saved })
