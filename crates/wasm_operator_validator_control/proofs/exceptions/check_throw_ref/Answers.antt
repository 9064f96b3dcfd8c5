use Rattle.std.proofs.Common.{true, false, [], ◌∷◌, refl}
use Rattle.wasm_operators_immediates.specs.declared.proposal.Proposal.TheVariants.{Exceptions}
use Rattle.wasm_operator_validator_rules.specs.Exceptions.{exception}
use Rattle.wasm_operator_validator_state.specs.Refusals.{refused}
use Rattle.wasm_operator_validator_stacks.specs.determined.laws.Determined.{not_begun}
use Rattle.wasm_operator_validator_control.specs.laws.Jumping.{by_last}
use Rattle.wasm_operator_validator_control.proofs.ThrowRows.{throw_ref, throw_ref_is, throw_ref_last}
use Rattle.wasm_operator_validator_control.proofs.exceptions.check_throw_ref.Goals as goal

pub returns-in-Err : goal.returns-in-Err
returns-in-Err g c =
    let m = g.R.WasmModuleResources.meaning c.args.resources.now in
    not_begun c.in-Err.refusal m c.args.validator.now throw_ref Exceptions false throw_ref_is c.in-Err.ensures.begins c.in-Err.ensures.stops

pub returns : goal.returns
returns g c =
    let m = g.R.WasmModuleResources.meaning c.args.resources.now in
    by_last (refused c.jump_with.result) m c.args.validator.now c.jump_with.new.validator throw_ref Exceptions false (exception true ∷ []) throw_ref_is c.in-Ok.ensures.begins
    (λ set. refl) (throw_ref_last m c.args.validator.now)
    (rw (c.exception_type-thrown.ensures m) at c.jump_with.ensures.does) (record { given = c.jump_with.ensures.given; failed = c.jump_with.ensures.failed; saved = c.jump_with.ensures.saved })
