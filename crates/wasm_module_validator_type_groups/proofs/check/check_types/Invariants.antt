use Rattle.std.proofs.Common.{◌↔◌, ◌-◌}
use Rattle.wasm_module_validator_type_groups.specs.ValidTypes.{AreTypesValid}
use Rattle.wasm_module_validator_type_groups.proofs.check.check_types.Given as goal

abbrev pub invariant-loop-number : goal.invariant-loop-number
invariant-loop-number l =
    AreTypesValid l.types.groups l.features.0 l.most l.ids.start.0 (l.ids.end.0 - l.ids.start.0)
    ↔ AreTypesValid l.types.groups l.features.0 l.most l.number (l.ids.end.0 - l.number)
