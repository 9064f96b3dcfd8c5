use Rattle.std.proofs.Common.{false, refl}
use Rattle.wasm_types.specs.decoding.DenialLaws.{denies}
use Rattle.wasm_operators_immediates.specs.declared.proposal.Proposal.TheVariants.{TailCall}
use Rattle.wasm_operator_validator_rules.specs.Context.{address_type}
use Rattle.wasm_operator_validator_state.specs.resources.Meaning.{table_in}
use Rattle.wasm_operator_validator_state.specs.Refusals.{refused, kind_of}
use Rattle.wasm_operator_validator_state.specs.State.{signature_of}
use Rattle.wasm_operator_validator_stacks.specs.determined.laws.Types.{address_is}
use Rattle.wasm_operator_validator_stacks.specs.determined.laws.Same.{stays_trans}
use Rattle.wasm_operator_validator_stacks.specs.determined.laws.Determined.{not_begun, refused_here, refused_then}
use Rattle.wasm_operator_validator_stacks.specs.determined.laws.Usable.{fails}
use Rattle.wasm_operator_validator_state.specs.blocks.Signatures.{signature_in}
use Rattle.wasm_operator_validator_control.specs.laws.Jumping.{by_last, jumps_more}
use Rattle.wasm_operator_validator_control.specs.laws.Labels.{outermost_at, some_outermost}
use Rattle.wasm_operator_validator_control.proofs.CallRows.{return_call_indirect, return_call_indirect_is, return_call_indirect_last, no_return_call_indirect, no_return_type, returns_others_through, takes_index, no_last_index}
use Rattle.wasm_operator_validator_control.proofs.tails.check_return_call_indirect.Goals as goal

pub returns-in-Err : goal.returns-in-Err
returns-in-Err g c =
    let m = g.R.WasmModuleResources.meaning c.args.resources.now in
    not_begun c.in-Err.refusal m c.args.validator.now (return_call_indirect c.args.type_index c.args.table_index) TailCall false (return_call_indirect_is c.args.type_index c.args.table_index) c.in-Err.ensures.begins c.in-Err.ensures.stops

pub returns-in_default : goal.returns-in_default
returns-in_default g c = absurd (some_outermost c.args.validator.now.opens c.in-Ok.ensures.begins.framed c.in_default.ensures)

pub returns-in-Err-function_table : goal.returns-in-Err-function_table
returns-in-Err-function_table g c =
    let m = g.R.WasmModuleResources.meaning c.args.resources.now in
    refused_here _ m c.args.validator.now (return_call_indirect c.args.type_index c.args.table_index) TailCall false c.in-Ok.ensures.begins
    (no_return_call_indirect m c.args.validator.now c.args.type_index c.args.table_index c.in-Ok.ensures.begins c.in-Err-function_table.ensures)

pub returns-in-Err-pop_operand : goal.returns-in-Err-pop_operand
returns-in-Err-pop_operand g c =
    let m = g.R.WasmModuleResources.meaning c.args.resources.now in
    let t = table_in m c.in-Ok-function_table.table in
    let r = kind_of c.in-Err-pop_operand.refusal in
    refused_then r m c.args.validator.now c.pop_operand.new.self (return_call_indirect c.args.type_index c.args.table_index) TailCall false c.in-Ok.ensures.begins (record { given = c.pop_operand.ensures.given; failed = c.pop_operand.ensures.failed; saved = c.pop_operand.ensures.saved })
    (no_last_index r m c.args.validator.now c.args.type_index c.args.table_index t c.in-Ok.ensures.begins c.in-Ok-function_table.ensures (rw (address_is m t.table64 c.index_type.result c.index_type.ensures) at c.in-Err-pop_operand.ensures.does))

pub returns-in-Err-found : goal.returns-in-Err-found
returns-in-Err-found g c =
    let m = g.R.WasmModuleResources.meaning c.args.resources.now in
    let r = kind_of c.in-Err-found.refusal in
    refused_then r m c.args.validator.now c.pop_operand.new.self (return_call_indirect c.args.type_index c.args.table_index) TailCall false c.in-Ok.ensures.begins (record { given = c.pop_operand.ensures.given; failed = c.pop_operand.ensures.failed; saved = c.pop_operand.ensures.saved })
    (denies r _ (no_return_type m c.args.validator.now c.args.type_index c.args.table_index c.in-Ok.ensures.begins c.in-Err-found.ensures))

pub returns-then-not-gives_results : goal.returns-then-not-gives_results
returns-then-not-gives_results g c =
    let m = g.R.WasmModuleResources.meaning c.args.resources.now in
    refused_then _ m c.args.validator.now c.pop_operand.new.self (return_call_indirect c.args.type_index c.args.table_index) TailCall false c.in-Ok.ensures.begins (record { given = c.pop_operand.ensures.given; failed = c.pop_operand.ensures.failed; saved = c.pop_operand.ensures.saved })
    (returns_others_through m c.args.validator.now c.args.type_index c.args.table_index (signature_in m c.in-Ok-found.function.now) (signature_of m c.in-Some.body).results c.in-Ok.ensures.begins c.in-Ok-found.ensures
    (outermost_at m c.args.validator.now.opens c.in-Some.body c.in-Some.field-0-1 c.in-Some.ensures) (fails c.gives_results.result c.gives_results.ensures c.if-not-gives_results.true))

pub returns : goal.returns
returns g c =
    let m = g.R.WasmModuleResources.meaning c.args.resources.now in
    let t = table_in m c.in-Ok-function_table.table in
    let b = signature_in m c.in-Ok-found.function.now in
    by_last (refused c.jump_with.result) m c.args.validator.now c.jump_with.new.validator (return_call_indirect c.args.type_index c.args.table_index) TailCall false (takes_index t b)
    (return_call_indirect_is c.args.type_index c.args.table_index) c.in-Ok.ensures.begins (λ set. refl)
    (return_call_indirect_last m c.args.validator.now c.args.type_index c.args.table_index t b (signature_of m c.in-Some.body).results c.in-Ok-function_table.ensures c.in-Ok-found.ensures
    (outermost_at m c.args.validator.now.opens c.in-Some.body c.in-Some.field-0-1 c.in-Some.ensures) (c.gives_results.ensures.0 c.if-not-gives_results.false))
    (jumps_more (refused c.jump_with.result) m c.args.validator.now c.pop_operand.new.self c.jump_with.new.validator (address_type t.table64) b.params
    (rw (address_is m t.table64 c.index_type.result c.index_type.ensures) at c.in-Ok-pop_operand.ensures.does) (rw c.params.ensures at c.jump_with.ensures.does))
    (stays_trans c.args.validator.now c.pop_operand.new.self c.jump_with.new.validator (record { given = c.pop_operand.ensures.given; failed = c.pop_operand.ensures.failed; saved = c.pop_operand.ensures.saved }) (record { given = c.jump_with.ensures.given; failed = c.jump_with.ensures.failed; saved = c.jump_with.ensures.saved }))
