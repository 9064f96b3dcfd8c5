use Rattle.std.proofs.Common.{false, refl}
use Rattle.wasm_operators_immediates.specs.declared.proposal.Proposal.TheVariants.{TailCall}
use Rattle.wasm_operator_validator_state.specs.Refusals.{refused}
use Rattle.wasm_operator_validator_state.specs.State.{signature_of}
use Rattle.wasm_operator_validator_stacks.specs.determined.laws.Determined.{not_begun, refused_here}
use Rattle.wasm_operator_validator_stacks.specs.determined.laws.Usable.{fails}
use Rattle.wasm_operator_validator_state.specs.blocks.Signatures.{signature_in}
use Rattle.wasm_operator_validator_control.specs.laws.Jumping.{by_last}
use Rattle.wasm_operator_validator_control.specs.laws.Labels.{outermost_at, some_outermost}
use Rattle.wasm_operator_validator_control.proofs.CallRows.{return_call, return_call_is, return_call_last, no_return_call, returns_others}
use Rattle.wasm_operator_validator_control.proofs.tails.check_return_call.Goals as goal

pub returns-in-Err : goal.returns-in-Err
returns-in-Err g c =
    let m = g.R.WasmModuleResources.meaning c.args.resources.now in
    not_begun c.in-Err.refusal m c.args.validator.now (return_call c.args.function_index) TailCall false (return_call_is c.args.function_index) c.in-Err.ensures.begins c.in-Err.ensures.stops

pub returns-in_default : goal.returns-in_default
returns-in_default g c = absurd (some_outermost c.args.validator.now.opens c.in-Ok.ensures.begins.framed c.in_default.ensures)

pub returns-in-Err-callee : goal.returns-in-Err-callee
returns-in-Err-callee g c =
    let m = g.R.WasmModuleResources.meaning c.args.resources.now in
    refused_here _ m c.args.validator.now (return_call c.args.function_index) TailCall false c.in-Ok.ensures.begins (no_return_call m c.args.validator.now c.args.function_index c.in-Ok.ensures.begins c.in-Err-callee.ensures)

pub returns-then-not-gives_results : goal.returns-then-not-gives_results
returns-then-not-gives_results g c =
    let m = g.R.WasmModuleResources.meaning c.args.resources.now in
    refused_here _ m c.args.validator.now (return_call c.args.function_index) TailCall false c.in-Ok.ensures.begins
    (returns_others m c.args.validator.now c.args.function_index (signature_in m c.in-Ok-callee.function.now) (signature_of m c.in-Some.body).results c.in-Ok.ensures.begins c.in-Ok-callee.ensures
    (outermost_at m c.args.validator.now.opens c.in-Some.body c.in-Some.field-0-1 c.in-Some.ensures) (fails c.gives_results.result c.gives_results.ensures c.if-not-gives_results.true))

pub returns : goal.returns
returns g c =
    let m = g.R.WasmModuleResources.meaning c.args.resources.now in
    let b = signature_in m c.in-Ok-callee.function.now in
    by_last (refused c.jump_with.result) m c.args.validator.now c.jump_with.new.validator (return_call c.args.function_index) TailCall false b.params (return_call_is c.args.function_index) c.in-Ok.ensures.begins
    (λ set. refl) (return_call_last m c.args.validator.now c.args.function_index b (signature_of m c.in-Some.body).results c.in-Ok-callee.ensures
    (outermost_at m c.args.validator.now.opens c.in-Some.body c.in-Some.field-0-1 c.in-Some.ensures) (c.gives_results.ensures.0 c.if-not-gives_results.false))
    (rw c.params.ensures at c.jump_with.ensures.does) (record { given = c.jump_with.ensures.given; failed = c.jump_with.ensures.failed; saved = c.jump_with.ensures.saved })
