use Rattle.std.proofs.Common.{◌↔◌, ◌+◌, drop}
use Rattle.wasm_module_validator_canonical_types.specs.Canonical.{IsIndexBefore, EachIn}
use Rattle.wasm_module_validator_canonical_types.proofs.check.check_supertypes.Given as goal

abbrev pub invariant-loop-i : goal.invariant-loop-i
invariant-loop-i l = EachIn (IsIndexBefore (l.start + l.place)) l.supertypes ↔ EachIn (IsIndexBefore (l.start + l.place)) (drop l.i l.supertypes)
