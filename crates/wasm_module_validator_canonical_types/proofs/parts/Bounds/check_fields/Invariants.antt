use Rattle.std.proofs.Common.{◌↔◌, ◌+◌, map, drop}
use Rattle.wasm_types.specs.fields.Fields.{field_of}
use Rattle.wasm_types.specs.trees.Each.{EachFields}
use Rattle.wasm_module_validator_canonical_types.specs.Canonical.{IsIndexAllowed}
use Rattle.wasm_module_validator_canonical_types.proofs.parts.Bounds.check_fields.Given as goal

abbrev pub invariant-loop-i : goal.invariant-loop-i
invariant-loop-i l =
    EachFields (IsIndexAllowed l.self.allow_gc l.self.start (l.self.start + l.self.len)) (map field_of l.fields)
    ↔ EachFields (IsIndexAllowed l.self.allow_gc l.self.start (l.self.start + l.self.len)) (map field_of (drop l.i l.fields))
