use Rattle.std.proofs.Common.{◌≡◌, ◌≤◌, length}
use Rattle.wasm_operator_validator_fast_tables.specs.Known.{IsMore, AreTagsIn}
use Rattle.wasm_operator_validator_fast_tables.proofs.tags.sign_tags.Given as goal

abbrev pub invariant-loop-at : goal.invariant-loop-at
invariant-loop-at g l = let m = g.R.WasmModuleResources.meaning l.resources in record {
  tags : AreTagsIn m.ids m.«module» l.flat.items l.tags.items;
  many : length l.tags.items ≡ l.at;
  more : IsMore l.fn.flat.items l.flat.items l.most;
  within : length l.flat.items ≤ l.most;
}
