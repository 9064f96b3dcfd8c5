use Rattle.std.proofs.Common.{[], ◌∷◌, ◌++◌, false, true}
use Rattle.wasm_operators_enums.specs.Op as op
use Rattle.wasm_operator_validator_state.specs.Refusals.{refused, kind_of}
use Rattle.wasm_operator_validator_resources.specs.Meaning.{type_in}
use Rattle.wasm_operator_validator_state.specs.State.{types_in}
use Rattle.wasm_operator_validator_stacks.specs.determined.laws.Determined.{not_begun}
use Rattle.wasm_operators_immediates.specs.declared.proposal.Proposal.TheVariants.{SharedEverythingThreads}
use Rattle.wasm_operator_validator_proposals.proofs.Plain.{shared_is, refused_row, exchanged_row}
use Rattle.wasm_operator_validator_proposals.proofs.Accessing.{accessed_at, accessed_nowhere, unchangeable, unstored, access_row, small_row}
use Rattle.wasm_types.specs.values.declared.value.ValType.TheVariants as vals
use Rattle.wasm_operators_enums.specs.declared.atomic.SharedOperator.TheVariants as shared
use Rattle.wasm_operator_validator_proposals.proofs.shared_accesses.check_ref_i31_shared.Goals as goal

pub returns : goal.returns
returns g c =
    let m = g.R.WasmModuleResources.meaning c.args.resources.now in
    exchanged_row (refused c.exchange.result) m c.args.validator.now c.exchange.new.self (op.Shared shared.RefI31Shared) SharedEverythingThreads (types_in m (vals.I32 ∷ [])) (types_in m (c.abstract_reference-made.result ∷ [])) (shared_is shared.RefI31Shared) c.in-Ok.ensures (small_row m c.args.validator.now c.abstract_reference-made.result c.abstract_reference-made.ensures) c.exchange.ensures.does (record { given = c.exchange.ensures.given; failed = c.exchange.ensures.failed; saved = c.exchange.ensures.saved })
