use Rattle.std.proofs.Common.{◌↔◌, ◌+◌, map, drop}
use Rattle.wasm_types.specs.values.Values.{value_of}
use Rattle.wasm_types.specs.trees.Each.{EachValues}
use Rattle.wasm_module_validator_canonical_types.specs.Canonical.{IsIndexAllowed}
use Rattle.wasm_module_validator_canonical_types.proofs.parts.Bounds.check_values.Given as goal

abbrev pub invariant-loop-i : goal.invariant-loop-i
invariant-loop-i l =
    EachValues (IsIndexAllowed l.self.allow_gc l.self.start (l.self.start + l.self.len)) (map value_of l.types)
    ↔ EachValues (IsIndexAllowed l.self.allow_gc l.self.start (l.self.start + l.self.len)) (map value_of (drop l.i l.types))
