use Rattle.wasm_module_validator_canonical_types.specs.matches.laws.Known.{entry_known}
use Rattle.wasm_module_validator_canonical_types.specs.matches.laws.Matching.{ids_match}
use Rattle.wasm_module_validator_canonical_types.proofs.matches.laws.ids_match_as_types.Goals as goal

pub returns-clause-known : goal.returns-clause-known
returns-clause-known c = entry_known

pub returns-clause-matches : goal.returns-clause-matches
returns-clause-matches c = ids_match
