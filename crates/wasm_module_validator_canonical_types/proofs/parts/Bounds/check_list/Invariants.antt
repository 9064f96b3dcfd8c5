use Rattle.std.proofs.Common.{◌↔◌, ◌+◌, drop}
use Rattle.wasm_module_validator_canonical_types.specs.Canonical.{IsIndexAllowed, EachIn}
use Rattle.wasm_module_validator_canonical_types.proofs.parts.Bounds.check_list.Given as goal

abbrev pub invariant-loop-i : goal.invariant-loop-i
invariant-loop-i l =
    EachIn (IsIndexAllowed l.self.allow_gc l.self.start (l.self.start + l.self.len)) l.indices
    ↔ EachIn (IsIndexAllowed l.self.allow_gc l.self.start (l.self.start + l.self.len)) (drop l.i l.indices)
