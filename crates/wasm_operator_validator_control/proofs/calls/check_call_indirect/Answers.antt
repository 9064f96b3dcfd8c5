use Rattle.std.proofs.Common.{false, refl}
use Rattle.wasm_types.specs.decoding.DenialLaws.{denies}
use Rattle.wasm_operators_immediates.specs.declared.proposal.Proposal.TheVariants.{Mvp}
use Rattle.wasm_operator_validator_rules.specs.Context.{address_type}
use Rattle.wasm_operator_validator_state.specs.resources.Meaning.{table_in}
use Rattle.wasm_operator_validator_state.specs.Refusals.{refused, kind_of}
use Rattle.wasm_operator_validator_stacks.specs.determined.laws.Types.{address_is}
use Rattle.wasm_operator_validator_stacks.specs.determined.laws.Same.{stays_trans}
use Rattle.wasm_operator_validator_stacks.specs.determined.laws.Determined.{refused_here, refused_then, by_types}
use Rattle.wasm_operator_validator_state.specs.blocks.Signatures.{signature_in}
use Rattle.wasm_operator_validator_control.specs.laws.Jumping.{exchanged_more}
use Rattle.wasm_operator_validator_control.proofs.CallRows.{call_indirect, call_indirect_is, call_indirect_row, no_call_indirect, no_indirect_type, takes_index, no_index}
use Rattle.wasm_operator_validator_control.proofs.calls.check_call_indirect.Goals as goal

pub returns-in-Err-function_table : goal.returns-in-Err-function_table
returns-in-Err-function_table g c =
    let m = g.R.WasmModuleResources.meaning c.args.resources.now in
    refused_here _ m c.args.validator.now (call_indirect c.args.type_index c.args.table_index) Mvp false c.in-Ok.ensures.begins
    (no_call_indirect m c.args.validator.now c.args.type_index c.args.table_index c.in-Ok.ensures.begins c.in-Err-function_table.ensures)

pub returns-in-Err-pop_operand : goal.returns-in-Err-pop_operand
returns-in-Err-pop_operand g c =
    let m = g.R.WasmModuleResources.meaning c.args.resources.now in
    let t = table_in m c.in-Ok-function_table.table in
    let r = kind_of c.in-Err-pop_operand.refusal in
    refused_then r m c.args.validator.now c.pop_operand.new.self (call_indirect c.args.type_index c.args.table_index) Mvp false c.in-Ok.ensures.begins (record { given = c.pop_operand.ensures.given; failed = c.pop_operand.ensures.failed; saved = c.pop_operand.ensures.saved })
    (no_index r m c.args.validator.now c.args.type_index c.args.table_index t c.in-Ok.ensures.begins c.in-Ok-function_table.ensures (rw (address_is m t.table64 c.index_type.result c.index_type.ensures) at c.in-Err-pop_operand.ensures.does))

pub returns-in-Err-found : goal.returns-in-Err-found
returns-in-Err-found g c =
    let m = g.R.WasmModuleResources.meaning c.args.resources.now in
    let r = kind_of c.in-Err-found.refusal in
    refused_then r m c.args.validator.now c.pop_operand.new.self (call_indirect c.args.type_index c.args.table_index) Mvp false c.in-Ok.ensures.begins (record { given = c.pop_operand.ensures.given; failed = c.pop_operand.ensures.failed; saved = c.pop_operand.ensures.saved })
    (denies r _ (no_indirect_type m c.args.validator.now c.args.type_index c.args.table_index c.in-Ok.ensures.begins c.in-Err-found.ensures))

pub returns : goal.returns
returns g c =
    let m = g.R.WasmModuleResources.meaning c.args.resources.now in
    let t = table_in m c.in-Ok-function_table.table in
    let b = signature_in m c.in-Ok-found.function.now in
    by_types (refused c.exchange.result) m c.args.validator.now c.exchange.new.self (call_indirect c.args.type_index c.args.table_index) Mvp false (takes_index t b) b.results
    (call_indirect_is c.args.type_index c.args.table_index) c.in-Ok.ensures.begins (λ set. refl)
    (call_indirect_row m c.args.validator.now c.args.type_index c.args.table_index t b c.in-Ok-function_table.ensures c.in-Ok-found.ensures)
    (exchanged_more (refused c.exchange.result) m c.args.validator.now c.pop_operand.new.self c.exchange.new.self (address_type t.table64) b.params b.results
    (rw (address_is m t.table64 c.index_type.result c.index_type.ensures) at c.in-Ok-pop_operand.ensures.does) (rw (c.params.ensures, c.results.ensures) at c.exchange.ensures.does))
    (stays_trans c.args.validator.now c.pop_operand.new.self c.exchange.new.self (record { given = c.pop_operand.ensures.given; failed = c.pop_operand.ensures.failed; saved = c.pop_operand.ensures.saved }) (record { given = c.exchange.ensures.given; failed = c.exchange.ensures.failed; saved = c.exchange.ensures.saved }))
