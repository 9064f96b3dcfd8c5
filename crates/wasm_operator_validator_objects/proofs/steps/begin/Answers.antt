use Rattle.std.proofs.Common.{false}
use Rattle.wasm_operators_immediates.specs.declared.proposal.Proposal.TheVariants.{Gc}
use Rattle.wasm_operators_enums.specs.Op as op
use Rattle.wasm_operator_validator_stacks.specs.determined.laws.Determined.{not_begun}
use Rattle.wasm_operator_validator_objects.proofs.Tables.{gc_is}
use Rattle.wasm_operator_validator_objects.proofs.steps.begin.Goals as goal

pub returns-in-Err : goal.returns-in-Err
returns-in-Err g c =
    let m = g.R.WasmModuleResources.meaning c.args.resources.now in
    not_begun c.in-Err.refusal m c.args.validator.now (op.Gc c.args.op.now) Gc false (gc_is c.args.op.now) c.in-Err.ensures.begins c.in-Err.ensures.stops
