use Rattle.std.proofs.Common.{◌↔◌, map}
use Rattle.wasm_types.specs.fields.Fields.{field_of}
use Rattle.wasm_module_validator_canonical_types.specs.matches.MatchesById.{FieldsMatchById}
use Rattle.wasm_module_validator_canonical_types.proofs.Lists.{FieldsFrom}
use Rattle.wasm_module_validator_canonical_types.proofs.matches.fields.fields_match.Given as goal

abbrev pub invariant-loop-i : goal.invariant-loop-i
invariant-loop-i l = FieldsMatchById l.types.groups (map field_of l.a) (map field_of l.b) ↔ FieldsFrom l.types.groups l.a l.b l.i
