use Rattle.std.proofs.Common.{[], None, false}
use Rattle.wasm_operators_immediates.specs.declared.proposal.Proposal.TheVariants.{BulkMemory}
use Rattle.wasm_operators_enums.specs.declared.bulk.BulkOperator.TheVariants as bulk
use Rattle.wasm_operators_enums.specs.Op as op
use Rattle.wasm_operator_validator_state.specs.resources.Meaning.{reference_in}
use Rattle.wasm_operator_validator_stacks.specs.determined.laws.Same.{stays_refl}
use Rattle.wasm_operator_validator_stacks.specs.determined.laws.Determined.{not_begun, stopped_by_content, refused_here, undetermined, unchanged, determined}
use Rattle.wasm_operator_validator_memory.proofs.Indexing.{drop_in_table}
use Rattle.wasm_operator_validator_memory.proofs.Copying.{drop_type, drop_none}
use Rattle.wasm_operator_validator_memory.proofs.copies.check_elem_drop.Goals as goal

pub returns-in-Err-clause-checks : goal.returns-in-Err-clause-checks
returns-in-Err-clause-checks g c =
    let m = g.R.WasmModuleResources.meaning c.args.resources.now in
    not_begun c.in-Err.refusal m c.args.validator.now (op.Bulk (bulk.ElemDrop c.args.elem_index)) BulkMemory false (drop_in_table c.args.elem_index).is c.in-Err.ensures.begins c.in-Err.ensures.stops

pub returns-in-Err-find_elements-clause-checks : goal.returns-in-Err-find_elements-clause-checks
returns-in-Err-find_elements-clause-checks g c =
    let m = g.R.WasmModuleResources.meaning c.args.resources.now in
    refused_here _ m c.args.validator.now (op.Bulk (bulk.ElemDrop c.args.elem_index)) BulkMemory false c.in-Ok.ensures.begins
    (undetermined m c.args.validator.now (op.Bulk (bulk.ElemDrop c.args.elem_index)) BulkMemory false (drop_in_table c.args.elem_index) c.in-Ok.ensures.begins (drop_none m c.args.validator.now c.args.elem_index c.in-Err-find_elements.ensures.found))

pub returns-clause-checks : goal.returns-clause-checks
returns-clause-checks g c =
    let m = g.R.WasmModuleResources.meaning c.args.resources.now in
    determined None m c.args.validator.now c.args.validator.now (op.Bulk (bulk.ElemDrop c.args.elem_index)) BulkMemory false [] [] (drop_in_table c.args.elem_index) c.in-Ok.ensures.begins
    (drop_type m c.args.validator.now c.args.elem_index (reference_in m c.in-Ok-find_elements.segment) c.in-Ok-find_elements.ensures.found) (unchanged m c.args.validator.now c.in-Ok.ensures.begins.framed) (stays_refl c.args.validator.now)

pub returns-in-Err-clause-memory : goal.returns-in-Err-clause-memory
returns-in-Err-clause-memory g c = stopped_by_content c.args.validator.now BulkMemory false c.in-Err.refusal c.in-Err.ensures.stops

pub returns-in-Err-find_elements-clause-memory : goal.returns-in-Err-find_elements-clause-memory
returns-in-Err-find_elements-clause-memory g c = c.in-Err-find_elements.ensures.content
