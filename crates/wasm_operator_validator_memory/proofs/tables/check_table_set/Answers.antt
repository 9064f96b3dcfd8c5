use Rattle.std.proofs.Common.{[], ◌∷◌, false}
use Rattle.wasm_types.specs.values.declared.value.ValType.TheVariants as vals
use Rattle.wasm_operators_immediates.specs.declared.proposal.Proposal.TheVariants.{ReferenceTypes}
use Rattle.wasm_operators_enums.specs.declared.bulk.BulkOperator.TheVariants as bulk
use Rattle.wasm_operators_enums.specs.Op as op
use Rattle.wasm_operator_validator_state.specs.Refusals.{refused}
use Rattle.wasm_operator_validator_state.specs.State.{types_in}
use Rattle.wasm_operator_validator_stacks.specs.determined.laws.Determined.{not_begun, refused_here, undetermined, taken_only, determined}
use Rattle.wasm_operator_validator_memory.proofs.Indexing.{set_in_table, set_type, set_none}
use Rattle.wasm_operator_validator_memory.proofs.tables.check_table_set.Goals as goal

pub returns-in-Err : goal.returns-in-Err
returns-in-Err g c =
    let m = g.R.WasmModuleResources.meaning c.args.resources.now in
    not_begun c.in-Err.refusal m c.args.validator.now (op.Bulk (bulk.TableSet c.args.table)) ReferenceTypes false (set_in_table c.args.table).is c.in-Err.ensures.begins c.in-Err.ensures.stops

pub returns-in-Err-usable_table : goal.returns-in-Err-usable_table
returns-in-Err-usable_table g c =
    let m = g.R.WasmModuleResources.meaning c.args.resources.now in
    refused_here _ m c.args.validator.now (op.Bulk (bulk.TableSet c.args.table)) ReferenceTypes false c.in-Ok.ensures.begins
    (undetermined m c.args.validator.now (op.Bulk (bulk.TableSet c.args.table)) ReferenceTypes false (set_in_table c.args.table) c.in-Ok.ensures.begins (set_none m c.args.validator.now c.args.table c.in-Err-usable_table.ensures))

pub returns : goal.returns
returns g c =
    let m = g.R.WasmModuleResources.meaning c.args.resources.now in
    determined (refused c.pop_operands.result) m c.args.validator.now c.pop_operands.new.self (op.Bulk (bulk.TableSet c.args.table)) ReferenceTypes false (c.index_type.result ∷ vals.Ref c.in-Ok-usable_table.found.element_type ∷ []) [] (set_in_table c.args.table) c.in-Ok.ensures.begins
    (set_type m c.args.validator.now c.args.table c.in-Ok-usable_table.found c.in-Ok-usable_table.ensures c.index_type.result c.index_type.ensures)
    (taken_only (refused c.pop_operands.result) m c.args.validator.now c.pop_operands.new.self (types_in m (c.index_type.result ∷ vals.Ref c.in-Ok-usable_table.found.element_type ∷ [])) c.pop_operands.ensures.does) (record { given = c.pop_operands.ensures.given; failed = c.pop_operands.ensures.failed; saved = c.pop_operands.ensures.saved })
