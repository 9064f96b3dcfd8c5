use Rattle.std.proofs.Common.{◌≡◌, length}
use Rattle.wasm_operator_validator_fast_tables.specs.Known.{AreElementsIn}
use Rattle.wasm_operator_validator_fast_tables.proofs.elements.elements_of.Given as goal

abbrev pub invariant-loop-at : goal.invariant-loop-at
invariant-loop-at g l =
    let m = g.R.WasmModuleResources.meaning l.resources in AreElementsIn m.ids m.«module» l.elements.items × (length l.elements.items ≡ l.at)
