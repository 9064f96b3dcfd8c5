use Rattle.std.proofs.Common.{◌≡◌, ◌≤◌, ◌+◌, ◌*◌, length}
use Rattle.wasm_operator_validator_fast_tables.specs.Values.{AreSteps}
use Rattle.wasm_operator_validator_fast_tables.specs.Known.{StandAlone, AreNamedIn, ArePlacedIn}
use Rattle.wasm_operator_validator_fast_tables.proofs.naming.name_all.Given as goal

abbrev pub invariant-loop-at : goal.invariant-loop-at
invariant-loop-at g l = let m = g.R.WasmModuleResources.meaning l.resources in record {
  named : AreNamedIn m.ids m.«module» l.fields.items l.named.items;
  places : ArePlacedIn l.flat.items l.named.items;
  alone : StandAlone l.flat.items;
  within : length l.flat.items ≤ l.most;
  steps : AreSteps m.ids l.steps.items;
  count : length l.named.items ≡ l.at;
  room : length l.flat.items ≡ 40 + 2 * l.at;
}
