use Rattle.std.proofs.Common.{[], ◌∷◌, ◌++◌, false, true}
use Rattle.wasm_operators_enums.specs.Op as op
use Rattle.wasm_operator_validator_state.specs.Refusals.{refused, kind_of}
use Rattle.wasm_operator_validator_resources.specs.Meaning.{type_in}
use Rattle.wasm_operator_validator_state.specs.State.{types_in}
use Rattle.wasm_operator_validator_stacks.specs.determined.laws.Determined.{not_begun}
use Rattle.wasm_operators_immediates.specs.declared.proposal.Proposal.TheVariants.{SharedEverythingThreads}
use Rattle.wasm_operator_validator_proposals.proofs.Plain.{shared_is, refused_row, exchanged_row}
use Rattle.wasm_operator_validator_rules.specs.Places.{global_place, table_place, field_place, element_place}
use Rattle.wasm_operator_validator_proposals.proofs.Accessing.{accessed_at, accessed_nowhere, unchangeable, unstored, access_row, small_row}
use Rattle.wasm_types.specs.values.declared.value.ValType.TheVariants as vals
use Rattle.wasm_operator_validator_proposals.proofs.shared_accesses.check_field_access.Goals as goal

pub returns-in-Err-field_at : goal.returns-in-Err-field_at
returns-in-Err-field_at g c =
    let m = g.R.WasmModuleResources.meaning c.args.resources.now in
    refused_row _ m c.args.validator.now (op.Shared c.args.op) SharedEverythingThreads (shared_is c.args.op) c.in-Ok.ensures (accessed_nowhere m c.args.validator.now c.args.op c.args.access (λ h. field_place h c.args.type_index c.args.field_index) c.requires c.in-Err-field_at.ensures)

pub check_access-requires-clause-row : goal.check_access-requires-clause-row
check_access-requires-clause-row g c =
    let m = g.R.WasmModuleResources.meaning c.args.resources.now in
    accessed_at m c.args.validator.now c.args.op c.args.access (λ h. field_place h c.args.type_index c.args.field_index) (c.in-Ok-field_at.found.0 ∷ []) c.in-Ok-field_at.found.1 c.requires c.in-Ok-field_at.ensures
