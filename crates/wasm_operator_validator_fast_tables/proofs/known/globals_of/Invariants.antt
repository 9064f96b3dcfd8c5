use Rattle.std.proofs.Common.{◌≡◌, length}
use Rattle.wasm_operator_validator_fast_tables.specs.Known.{AreGlobalsIn}
use Rattle.wasm_operator_validator_fast_tables.proofs.known.globals_of.Given as goal

abbrev pub invariant-loop-at : goal.invariant-loop-at
invariant-loop-at g l =
    let m = g.R.WasmModuleResources.meaning l.resources in AreGlobalsIn m.ids m.«module» l.globals.items × (length l.globals.items ≡ l.at)
