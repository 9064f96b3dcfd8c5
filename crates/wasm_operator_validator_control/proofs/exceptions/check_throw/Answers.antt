use Rattle.std.proofs.Common.{false, refl}
use Rattle.wasm_operators_immediates.specs.declared.proposal.Proposal.TheVariants.{Exceptions}
use Rattle.wasm_operator_validator_state.specs.Refusals.{refused}
use Rattle.wasm_operator_validator_state.specs.State.{types_in}
use Rattle.wasm_operator_validator_stacks.specs.determined.laws.Determined.{not_begun, refused_here}
use Rattle.wasm_operator_validator_control.specs.laws.Jumping.{by_last}
use Rattle.wasm_operator_validator_control.proofs.ThrowRows.{throw, throw_is, throw_last, no_throw}
use Rattle.wasm_operator_validator_control.proofs.exceptions.check_throw.Goals as goal

pub returns-in-Err : goal.returns-in-Err
returns-in-Err g c =
    let m = g.R.WasmModuleResources.meaning c.args.resources.now in
    not_begun c.in-Err.refusal m c.args.validator.now (throw c.args.tag_index) Exceptions false (throw_is c.args.tag_index) c.in-Err.ensures.begins c.in-Err.ensures.stops

pub returns-in-Err-exception_tag : goal.returns-in-Err-exception_tag
returns-in-Err-exception_tag g c =
    let m = g.R.WasmModuleResources.meaning c.args.resources.now in
    refused_here _ m c.args.validator.now (throw c.args.tag_index) Exceptions false c.in-Ok.ensures.begins
    (no_throw m c.args.validator.now c.args.tag_index c.in-Ok.ensures.begins c.in-Err-exception_tag.ensures)

pub returns : goal.returns
returns g c =
    let m = g.R.WasmModuleResources.meaning c.args.resources.now in
    let ts = types_in m c.in-Ok-exception_tag.tag.now.params in
    by_last (refused c.jump_with.result) m c.args.validator.now c.jump_with.new.validator (throw c.args.tag_index) Exceptions false ts (throw_is c.args.tag_index) c.in-Ok.ensures.begins
    (λ set. refl) (throw_last m c.args.validator.now c.args.tag_index ts c.in-Ok-exception_tag.ensures)
    (rw c.params.ensures at c.jump_with.ensures.does) (record { given = c.jump_with.ensures.given; failed = c.jump_with.ensures.failed; saved = c.jump_with.ensures.saved })
