use Rattle.wasm_module_validator_canonical_types.proofs.MatchesWorkedProofs.{matches_worked}
use Rattle.wasm_module_validator_canonical_types.proofs.matches.laws.matching_worked.Goals as goal

pub returns : goal.returns
returns c = matches_worked
