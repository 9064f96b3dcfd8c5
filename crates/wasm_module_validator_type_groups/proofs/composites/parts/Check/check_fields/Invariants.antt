use Rattle.std.proofs.Common.{◌↔◌, map, drop}
use Rattle.wasm_types.specs.fields.Fields.{field_of}
use Rattle.wasm_module_validator_type_groups.specs.composites.Composites.{AreFieldsValid}
use Rattle.wasm_module_validator_type_groups.proofs.composites.parts.Check.check_fields.Given as goal

abbrev pub invariant-loop-i : goal.invariant-loop-i
invariant-loop-i l =
    AreFieldsValid l.self.types.now.groups l.self.features.0 l.shared (map field_of l.fields)
    ↔ AreFieldsValid l.self.types.now.groups l.self.features.0 l.shared (map field_of (drop l.i l.fields))
