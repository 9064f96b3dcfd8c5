use Rattle.std.proofs.Common.{◌↔◌, ◌+◌, drop, map}
use Rattle.wasm_types.specs.Entries.{declared_of}
use Rattle.wasm_module_validator_canonical_types.specs.Canonical.{AreTypesAllowed}
use Rattle.wasm_module_validator_canonical_types.proofs.parts.Bounds.check_types.Given as goal

abbrev pub invariant-loop-i : goal.invariant-loop-i
invariant-loop-i l =
    AreTypesAllowed l.self.allow_gc l.self.start (l.self.start + l.self.len) l.self.start (map declared_of l.types)
    ↔ AreTypesAllowed l.self.allow_gc l.self.start (l.self.start + l.self.len) (l.self.start + l.i) (map declared_of (drop l.i l.types))
