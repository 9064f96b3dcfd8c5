use Rattle.wasm_operator_validator_resources.specs.Meaning.{type_in}
use Rattle.wasm_operator_validator_objects.proofs.Leading.{Leads, of_one}
use Rattle.wasm_operator_validator_objects.proofs.popping.pop_same.Given as goal

abbrev pub invariant-loop-left : goal.invariant-loop-left
invariant-loop-left g l =
    let m = g.R.WasmModuleResources.meaning l.resources in Leads m l.fn.validator (of_one l.count (type_in m l.ty)) l.validator (of_one l.left (type_in m l.ty))

abbrev pub decreases-loop-left : goal.decreases-loop-left
decreases-loop-left g l = l.left
