use Rattle.std.proofs.Common.{◌↔◌, map}
use Rattle.wasm_types.specs.values.Values.{value_of}
use Rattle.wasm_module_validator_canonical_types.specs.matches.MatchesById.{ResultsMatchById}
use Rattle.wasm_module_validator_canonical_types.proofs.Lists.{ResultsFrom}
use Rattle.wasm_module_validator_canonical_types.proofs.matches.fields.results_match.Given as goal

abbrev pub invariant-loop-i : goal.invariant-loop-i
invariant-loop-i l = ResultsMatchById l.types.groups (map value_of l.a) (map value_of l.b) ↔ ResultsFrom l.types.groups l.a l.b l.i
