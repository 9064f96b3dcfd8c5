use Rattle.std.proofs.Common.{◌≡◌, length}
use Rattle.wasm_operator_validator_fast_tables.specs.Known.{AreReferencedIn}
use Rattle.wasm_operator_validator_fast_tables.proofs.known.referenced_of.Given as goal

abbrev pub invariant-loop-at : goal.invariant-loop-at
invariant-loop-at g l = AreReferencedIn (g.R.WasmModuleResources.meaning l.resources).«module» l.referenced.items × (length l.referenced.items ≡ l.at)
