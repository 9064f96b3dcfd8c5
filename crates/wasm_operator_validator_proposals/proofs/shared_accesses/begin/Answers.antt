use Rattle.std.proofs.Common.{[], ◌∷◌, ◌++◌, false, true}
use Rattle.wasm_operators_enums.specs.Op as op
use Rattle.wasm_operator_validator_state.specs.Refusals.{refused, kind_of}
use Rattle.wasm_operator_validator_resources.specs.Meaning.{type_in}
use Rattle.wasm_operator_validator_state.specs.State.{types_in}
use Rattle.wasm_operator_validator_stacks.specs.determined.laws.Determined.{not_begun}
use Rattle.wasm_operators_immediates.specs.declared.proposal.Proposal.TheVariants.{SharedEverythingThreads}
use Rattle.wasm_operator_validator_proposals.proofs.Plain.{shared_is, refused_row, exchanged_row}
use Rattle.wasm_operator_validator_proposals.proofs.shared_accesses.begin.Goals as goal

pub returns-in-Err : goal.returns-in-Err
returns-in-Err g c =
    let m = g.R.WasmModuleResources.meaning c.args.resources.now in
    not_begun c.in-Err.refusal m c.args.validator.now (op.Shared c.args.op.now) SharedEverythingThreads false (shared_is c.args.op.now).plain c.in-Err.ensures.begins c.in-Err.ensures.stops
