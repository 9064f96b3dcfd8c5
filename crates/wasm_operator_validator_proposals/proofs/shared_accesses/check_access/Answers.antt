use Rattle.std.proofs.Common.{[], ◌∷◌, ◌++◌, false, true}
use Rattle.wasm_operators_enums.specs.Op as op
use Rattle.wasm_operator_validator_state.specs.Refusals.{refused, kind_of}
use Rattle.wasm_operator_validator_resources.specs.Meaning.{type_in}
use Rattle.wasm_operator_validator_state.specs.State.{types_in}
use Rattle.wasm_operator_validator_stacks.specs.determined.laws.Determined.{not_begun}
use Rattle.wasm_operators_immediates.specs.declared.proposal.Proposal.TheVariants.{SharedEverythingThreads}
use Rattle.wasm_operator_validator_proposals.proofs.Plain.{shared_is, refused_row, exchanged_row}
use Rattle.wasm_operator_validator_proposals.proofs.Accessing.{accessed_at, accessed_nowhere, unchangeable, unstored, access_row, small_row}
use Rattle.wasm_operator_validator_rules.specs.SharedAccesses.{taken_above, given_by_access}
use Rattle.wasm_operator_validator_proposals.specs.Accesses.{access_of}
use Rattle.wasm_operator_validator_proposals.proofs.shared_accesses.check_access.Goals as goal

pub returns-then-not-may_change : goal.returns-then-not-may_change
returns-then-not-may_change g c =
    let m = g.R.WasmModuleResources.meaning c.args.resources.now in
    refused_row _ m c.args.validator.now (op.Shared c.args.op.now) SharedEverythingThreads (shared_is c.args.op.now) c.requires.begun (unchangeable m c.args.validator.now c.args.op.now c.args.access c.args.reached.now c.args.place.now c.may_change.result c.requires.row c.may_change.ensures c.if-not-may_change.true)

pub returns-then-not-stores : goal.returns-then-not-stores
returns-then-not-stores g c =
    let m = g.R.WasmModuleResources.meaning c.args.resources.now in
    refused_row _ m c.args.validator.now (op.Shared c.args.op.now) SharedEverythingThreads (shared_is c.args.op.now) c.requires.begun (unstored m c.args.validator.now c.args.op.now c.args.access c.args.reached.now c.args.place.now c.stores.result c.requires.row c.stores.ensures c.if-not-stores.true)

pub returns : goal.returns
returns g c =
    let m = g.R.WasmModuleResources.meaning c.args.resources.now in
    exchanged_row (refused c.exchange_stored.result) m c.args.validator.now c.exchange_stored.new.validator (op.Shared c.args.op.now) SharedEverythingThreads (types_in m c.args.reached.now ++ taken_above (access_of c.args.access) (type_in m c.unpack-stored.result)) (given_by_access (access_of c.args.access) (type_in m c.unpack-stored.result)) (shared_is c.args.op.now) c.requires.begun (access_row m c.args.validator.now c.args.op.now c.args.access c.args.reached.now c.args.place.now c.unpack-stored.result c.may_change.result c.stores.result c.requires.row c.may_change.ensures c.if-not-may_change.false c.stores.ensures c.if-not-stores.false c.unpack-stored.ensures) c.exchange_stored.ensures.does (record { given = c.exchange_stored.ensures.given; failed = c.exchange_stored.ensures.failed; saved = c.exchange_stored.ensures.saved })
