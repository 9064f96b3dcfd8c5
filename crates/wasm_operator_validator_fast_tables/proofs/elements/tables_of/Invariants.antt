use Rattle.std.proofs.Common.{◌≡◌, length}
use Rattle.wasm_operator_validator_fast_tables.specs.Known.{AreTablesIn}
use Rattle.wasm_operator_validator_fast_tables.proofs.elements.tables_of.Given as goal

abbrev pub invariant-loop-at : goal.invariant-loop-at
invariant-loop-at g l =
    let m = g.R.WasmModuleResources.meaning l.resources in AreTablesIn m.ids m.«module» l.tables.items × (length l.tables.items ≡ l.at)
