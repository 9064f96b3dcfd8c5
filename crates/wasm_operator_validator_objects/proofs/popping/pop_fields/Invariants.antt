use Rattle.std.proofs.Common.{length}
use Rattle.wasm_operator_validator_objects.proofs.Leading.{Leads, of_fields}
use Rattle.wasm_operator_validator_objects.proofs.popping.pop_fields.Given as goal

abbrev pub invariant-loop-last : goal.invariant-loop-last
invariant-loop-last g l =
    let m = g.R.WasmModuleResources.meaning l.resources in Leads m l.fn.validator (of_fields m l.fields) l.validator (of_fields m l.left)

abbrev pub decreases-loop-last : goal.decreases-loop-last
decreases-loop-last g l = length l.left
