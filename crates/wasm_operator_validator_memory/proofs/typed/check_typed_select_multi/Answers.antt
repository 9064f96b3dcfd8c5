use Rattle.std.proofs.Common.{false}
use Rattle.wasm_operators_immediates.specs.declared.proposal.Proposal.TheVariants.{ReferenceTypes}
use Rattle.wasm_operators_enums.specs.Op as op
use Rattle.wasm_operator_validator_stacks.specs.determined.laws.Determined.{not_begun, stopped_by_content, refused_here}
use Rattle.wasm_operator_validator_memory.proofs.WrittenTypes.{multi_is, not_multi}
use Rattle.wasm_operator_validator_memory.proofs.typed.check_typed_select_multi.Goals as goal

pub returns-in-Err-clause-checks : goal.returns-in-Err-clause-checks
returns-in-Err-clause-checks g c =
    not_begun c.in-Err.refusal (g.R.WasmModuleResources.meaning c.args.resources.now) c.args.validator.now (op.Parametric (op.TypedSelectMulti c.args.tys.now)) ReferenceTypes false
    (multi_is c.args.tys.now) c.in-Err.ensures.begins c.in-Err.ensures.stops

pub returns-clause-checks : goal.returns-clause-checks
returns-clause-checks g c =
    let m = g.R.WasmModuleResources.meaning c.args.resources.now in
    refused_here _ m c.args.validator.now (op.Parametric (op.TypedSelectMulti c.args.tys.now)) ReferenceTypes false c.in-Ok.ensures.begins (not_multi m c.args.validator.now c.args.tys.now c.in-Ok.ensures.begins)

pub returns-in-Err-clause-memory : goal.returns-in-Err-clause-memory
returns-in-Err-clause-memory g c = stopped_by_content c.args.validator.now ReferenceTypes false c.in-Err.refusal c.in-Err.ensures.stops
