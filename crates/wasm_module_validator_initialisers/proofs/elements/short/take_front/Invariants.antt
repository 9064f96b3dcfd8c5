use Rattle.std.proofs.Common.{◌≤◌, length}
use Rattle.wasm_operator_validator_state.specs.resources.Meaning.{type_in}
use Rattle.wasm_module_validator_initialisers.specs.elements.Short.{NamesRun}
use Rattle.wasm_module_validator_initialisers.proofs.elements.short.take_front.Given as goal

-- as many elements were passed as there were turns
abbrev pub invariant-loop-passed : goal.invariant-loop-passed
invariant-loop-passed g l =
    let m = g.R.WasmModuleResources.meaning l.resources in
    (l.at ≤ length l.bytes) × (l.passed ≤ l.most)
    × NamesRun l.features.0 m.«module» (type_in m l.ty) l.bytes l.passed 0 l.at l.fn.names.items l.names.items
