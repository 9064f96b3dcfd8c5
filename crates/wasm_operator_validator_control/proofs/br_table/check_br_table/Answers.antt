use Rattle.std.proofs.Common.{false}
use Rattle.wasm_operators_immediates.specs.declared.proposal.Proposal.TheVariants.{Mvp}
use Rattle.wasm_operator_validator_state.specs.Refusals.{refused, kind_of}
use Rattle.wasm_operator_validator_stacks.specs.determined.laws.Types.{i32_in}
use Rattle.wasm_operator_validator_stacks.specs.determined.laws.Same.{stays_trans}
use Rattle.wasm_operator_validator_stacks.specs.determined.laws.Determined.{refused_then}
use Rattle.wasm_operator_validator_control.proofs.TableRow.{br_table, no_index, not_taken, checked}
use Rattle.wasm_operator_validator_control.proofs.br_table.check_br_table.Goals as goal

pub returns-in-Err-pop_operand : goal.returns-in-Err-pop_operand
returns-in-Err-pop_operand g c =
    let m = g.R.WasmModuleResources.meaning c.args.resources.now in
    let r = kind_of c.in-Err-pop_operand.refusal in
    refused_then r m c.args.validator.now c.pop_operand.new.self (br_table c.args.table.now) Mvp false c.in-Ok.ensures.begins
    (record { given = c.pop_operand.ensures.given; failed = c.pop_operand.ensures.failed; saved = c.pop_operand.ensures.saved })
    (no_index r m c.args.validator.now c.args.table.now c.in-Ok.ensures.begins (rw (i32_in m) at c.in-Err-pop_operand.ensures.does))

pub returns-in-Err-match_table : goal.returns-in-Err-match_table
returns-in-Err-match_table g c =
    let m = g.R.WasmModuleResources.meaning c.args.resources.now in
    let r = kind_of c.in-Err-match_table.refusal in
    refused_then r m c.args.validator.now c.pop_operand.new.self (br_table c.args.table.now) Mvp false c.in-Ok.ensures.begins
    (record { given = c.pop_operand.ensures.given; failed = c.pop_operand.ensures.failed; saved = c.pop_operand.ensures.saved })
    (not_taken r m c.args.validator.now c.pop_operand.new.self c.args.table.now c.in-Ok.ensures.begins (rw (i32_in m) at c.in-Ok-pop_operand.ensures.does) c.in-Err-match_table.ensures)

pub returns : goal.returns
returns g c =
    let m = g.R.WasmModuleResources.meaning c.args.resources.now in
    checked (refused c.set_unreachable.result) m c.args.validator.now c.pop_operand.new.self c.set_unreachable.new.self c.args.table.now c.in-Ok.ensures.begins
    (rw (i32_in m) at c.in-Ok-pop_operand.ensures.does) c.in-Ok-match_table.ensures (c.set_unreachable.ensures.does m)
    (stays_trans c.args.validator.now c.pop_operand.new.self c.set_unreachable.new.self
    (record { given = c.pop_operand.ensures.given; failed = c.pop_operand.ensures.failed; saved = c.pop_operand.ensures.saved })
    (record { given = c.set_unreachable.ensures.given; failed = c.set_unreachable.ensures.failed; saved = c.set_unreachable.ensures.saved }))
