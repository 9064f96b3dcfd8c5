use Rattle.std.proofs.Common.{false, refl}
use Rattle.wasm_operators_immediates.specs.declared.proposal.Proposal.TheVariants.{FunctionReferences}
use Rattle.wasm_operator_validator_state.specs.Refusals.{refused, kind_of}
use Rattle.wasm_operator_validator_stacks.specs.determined.laws.Same.{stays_trans}
use Rattle.wasm_operator_validator_stacks.specs.determined.laws.Determined.{not_begun, refused_here, refused_then, by_types}
use Rattle.wasm_operator_validator_state.specs.blocks.Signatures.{signature_in}
use Rattle.wasm_operator_validator_control.specs.Callees.{reference_type}
use Rattle.wasm_operator_validator_control.specs.laws.Jumping.{exchanged_more}
use Rattle.wasm_operator_validator_control.proofs.RefCalls.{call_ref, call_ref_is, call_ref_row, no_call_ref, no_callee, has_index, takes_reference}
use Rattle.wasm_operator_validator_control.proofs.calls.check_call_ref.Goals as goal

pub returns-in-Err : goal.returns-in-Err
returns-in-Err g c =
    let m = g.R.WasmModuleResources.meaning c.args.resources.now in
    not_begun c.in-Err.refusal m c.args.validator.now (call_ref c.args.type_index) FunctionReferences false (call_ref_is c.args.type_index) c.in-Err.ensures.begins c.in-Err.ensures.stops

pub returns-in-Err-callee_type : goal.returns-in-Err-callee_type
returns-in-Err-callee_type g c =
    let m = g.R.WasmModuleResources.meaning c.args.resources.now in
    refused_here _ m c.args.validator.now (call_ref c.args.type_index) FunctionReferences false c.in-Ok.ensures.begins
    (no_call_ref m c.args.validator.now c.args.type_index c.in-Ok.ensures.begins c.in-Err-callee_type.ensures)

pub returns-in-Err-reference_at : goal.returns-in-Err-reference_at
returns-in-Err-reference_at g c =
    let m = g.R.WasmModuleResources.meaning c.args.resources.now in
    absurd (c.in-Err-reference_at.ensures (has_index m c.args.validator.now c.args.type_index (signature_in m c.in-Ok-callee_type.function.now) c.in-Ok-callee_type.ensures))

pub returns-in-Err-pop_operand : goal.returns-in-Err-pop_operand
returns-in-Err-pop_operand g c =
    let m = g.R.WasmModuleResources.meaning c.args.resources.now in
    let r = kind_of c.in-Err-pop_operand.refusal in
    refused_then r m c.args.validator.now c.pop_operand.new.self (call_ref c.args.type_index) FunctionReferences false c.in-Ok.ensures.begins
    (record { given = c.pop_operand.ensures.given; failed = c.pop_operand.ensures.failed; saved = c.pop_operand.ensures.saved })
    (no_callee r m c.args.validator.now c.args.type_index (signature_in m c.in-Ok-callee_type.function.now) c.in-Ok.ensures.begins c.in-Ok-callee_type.ensures (rw c.in-Ok-reference_at.ensures at c.in-Err-pop_operand.ensures.does))

pub returns : goal.returns
returns g c =
    let m = g.R.WasmModuleResources.meaning c.args.resources.now in
    let b = signature_in m c.in-Ok-callee_type.function.now in
    by_types (refused c.exchange.result) m c.args.validator.now c.exchange.new.self (call_ref c.args.type_index) FunctionReferences false (takes_reference m c.args.type_index b) b.results
    (call_ref_is c.args.type_index) c.in-Ok.ensures.begins (λ set. refl) (call_ref_row m c.args.validator.now c.args.type_index b c.in-Ok-callee_type.ensures)
    (exchanged_more (refused c.exchange.result) m c.args.validator.now c.pop_operand.new.self c.exchange.new.self (reference_type m c.args.type_index) b.params b.results
    (rw c.in-Ok-reference_at.ensures at c.in-Ok-pop_operand.ensures.does) (rw (c.params.ensures, c.results.ensures) at c.exchange.ensures.does))
    (stays_trans c.args.validator.now c.pop_operand.new.self c.exchange.new.self
    (record { given = c.pop_operand.ensures.given; failed = c.pop_operand.ensures.failed; saved = c.pop_operand.ensures.saved })
    (record { given = c.exchange.ensures.given; failed = c.exchange.ensures.failed; saved = c.exchange.ensures.saved }))
