use Rattle.std.proofs.Common.{◌≡◌, length}
use Rattle.wasm_operator_validator_fast_tables.specs.Known.{AreFunctionsIn}
use Rattle.wasm_operator_validator_fast_tables.proofs.known.functions_of.Given as goal

abbrev pub invariant-loop-at : goal.invariant-loop-at
invariant-loop-at g l = AreFunctionsIn (g.R.WasmModuleResources.meaning l.resources).«module» l.functions.items × (length l.functions.items ≡ l.at)
