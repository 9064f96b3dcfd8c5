use Rattle.std.proofs.Common.{◌↔◌, map, drop}
use Rattle.wasm_types.specs.values.Values.{value_of}
use Rattle.wasm_module_validator_type_groups.specs.composites.Composites.{ArePartsValid}
use Rattle.wasm_module_validator_type_groups.proofs.composites.parts.Check.check_parts.Given as goal

abbrev pub invariant-loop-i : goal.invariant-loop-i
invariant-loop-i l =
    ArePartsValid l.self.types.now.groups l.self.features.0 l.shared (map value_of l.types)
    ↔ ArePartsValid l.self.types.now.groups l.self.features.0 l.shared (map value_of (drop l.i l.types))
