use Rattle.std.proofs.Common.{◌≡◌, length}
use Rattle.wasm_operator_validator_fast_tables.specs.Known.{AreMemoriesIn}
use Rattle.wasm_operator_validator_fast_tables.proofs.elements.memories_of.Given as goal

abbrev pub invariant-loop-at : goal.invariant-loop-at
invariant-loop-at g l =
    AreMemoriesIn (g.R.WasmModuleResources.meaning l.resources).«module» l.memories.items × (length l.memories.items ≡ l.at)
