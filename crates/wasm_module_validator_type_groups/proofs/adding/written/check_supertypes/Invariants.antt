use Rattle.std.proofs.Common.{◌↔◌, drop, map}
use Rattle.wasm_types.specs.Entries.{declared_of}
use Rattle.wasm_module_validator_canonical_types.specs.Written.{HaveOneSupertype}
use Rattle.wasm_module_validator_type_groups.proofs.adding.written.check_supertypes.Given as goal

abbrev pub invariant-loop-i : goal.invariant-loop-i
invariant-loop-i l = HaveOneSupertype (map declared_of l.types) ↔ HaveOneSupertype (map declared_of (drop l.i l.types))
