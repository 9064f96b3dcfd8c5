use Rattle.std.proofs.Common.{[], ◌∷◌, false}
use Rattle.wasm_operators_immediates.specs.declared.proposal.Proposal.TheVariants.{ReferenceTypes}
use Rattle.wasm_operators_enums.specs.declared.bulk.BulkOperator.TheVariants as bulk
use Rattle.wasm_operators_enums.specs.Op as op
use Rattle.wasm_operator_validator_state.specs.Refusals.{refused}
use Rattle.wasm_operator_validator_state.specs.State.{types_in}
use Rattle.wasm_operator_validator_stacks.specs.determined.laws.Determined.{not_begun, refused_here, undetermined, given_only, determined}
use Rattle.wasm_operator_validator_memory.proofs.Indexing.{size_in_table, size_type, size_none}
use Rattle.wasm_operator_validator_memory.proofs.tables.check_table_size.Goals as goal

pub returns-in-Err : goal.returns-in-Err
returns-in-Err g c =
    let m = g.R.WasmModuleResources.meaning c.args.resources.now in
    not_begun c.in-Err.refusal m c.args.validator.now (op.Bulk (bulk.TableSize c.args.table)) ReferenceTypes false (size_in_table c.args.table).is c.in-Err.ensures.begins c.in-Err.ensures.stops

pub returns-in-Err-usable_table : goal.returns-in-Err-usable_table
returns-in-Err-usable_table g c =
    let m = g.R.WasmModuleResources.meaning c.args.resources.now in
    refused_here _ m c.args.validator.now (op.Bulk (bulk.TableSize c.args.table)) ReferenceTypes false c.in-Ok.ensures.begins
    (undetermined m c.args.validator.now (op.Bulk (bulk.TableSize c.args.table)) ReferenceTypes false (size_in_table c.args.table) c.in-Ok.ensures.begins (size_none m c.args.validator.now c.args.table c.in-Err-usable_table.ensures))

pub returns : goal.returns
returns g c =
    let m = g.R.WasmModuleResources.meaning c.args.resources.now in
    determined (refused c.push_operands.result) m c.args.validator.now c.push_operands.new.self (op.Bulk (bulk.TableSize c.args.table)) ReferenceTypes false [] (c.index_type.result ∷ []) (size_in_table c.args.table) c.in-Ok.ensures.begins
    (size_type m c.args.validator.now c.args.table c.in-Ok-usable_table.found c.in-Ok-usable_table.ensures c.index_type.result c.index_type.ensures)
    (given_only (refused c.push_operands.result) m c.args.validator.now c.push_operands.new.self (types_in m (c.index_type.result ∷ [])) c.push_operands.ensures.does) (record { given = c.push_operands.ensures.given; failed = c.push_operands.ensures.failed; saved = c.push_operands.ensures.saved })
