use Rattle.std.proofs.Common.{◌≡◌, length}
use Rattle.wasm_operator_validator_fast_tables.specs.Known.{AreCalleesOf}
use Rattle.wasm_operator_validator_fast_tables.proofs.known.callees_of.Given as goal

abbrev pub invariant-loop-x : goal.invariant-loop-x
invariant-loop-x l = AreCalleesOf l.functions l.types l.callees.items × (length l.callees.items ≡ l.x)
