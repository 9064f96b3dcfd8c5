use Rattle.std.proofs.Common.{false, refl}
use Rattle.wasm_operators_immediates.specs.declared.proposal.Proposal.TheVariants.{Mvp}
use Rattle.wasm_operator_validator_state.specs.Refusals.{refused}
use Rattle.wasm_operator_validator_stacks.specs.determined.laws.Determined.{refused_here, by_types}
use Rattle.wasm_operator_validator_state.specs.blocks.Signatures.{signature_in}
use Rattle.wasm_operator_validator_control.proofs.CallRows.{call, call_is, call_row, no_call}
use Rattle.wasm_operator_validator_control.proofs.calls.check_call.Goals as goal

pub returns-in-Err-callee : goal.returns-in-Err-callee
returns-in-Err-callee g c =
    let m = g.R.WasmModuleResources.meaning c.args.resources.now in
    refused_here _ m c.args.validator.now (call c.args.function_index) Mvp false c.in-Ok.ensures.begins (no_call m c.args.validator.now c.args.function_index c.in-Ok.ensures.begins c.in-Err-callee.ensures)

pub returns : goal.returns
returns g c =
    let m = g.R.WasmModuleResources.meaning c.args.resources.now in
    let b = signature_in m c.in-Ok-callee.function.now in
    by_types (refused c.exchange.result) m c.args.validator.now c.exchange.new.self (call c.args.function_index) Mvp false b.params b.results (call_is c.args.function_index) c.in-Ok.ensures.begins
    (λ set. refl) (call_row m c.args.validator.now c.args.function_index b c.in-Ok-callee.ensures) (rw (c.params.ensures, c.results.ensures) at c.exchange.ensures.does) (record { given = c.exchange.ensures.given; failed = c.exchange.ensures.failed; saved = c.exchange.ensures.saved })
