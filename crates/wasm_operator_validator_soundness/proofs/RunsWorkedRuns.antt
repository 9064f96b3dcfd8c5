-- The worked runs.
use Rattle.std.specs.Prelude.{ℤ}
use Rattle.std.proofs.Common.{refl}
use Rattle.wasm_types.specs.trees.Trees.{opened}
use Rattle.wasm_operator_validator_soundness.specs.runs.worked.Runs.{RunsWorked}

pub runs_worked : (x : ℤ) → RunsWorked x
unfolding opened
runs_worked x = record {
  called = refl;
  called_twice = refl;
  replaced = refl;
  thrown_out = refl;
  caught = refl;
  clause = refl;
  trapped_at_once = refl;
}
