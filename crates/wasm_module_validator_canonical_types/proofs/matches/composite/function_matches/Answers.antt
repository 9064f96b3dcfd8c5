use Rattle.std.proofs.Common.{rules}
use Rattle.wasm_module_validator_canonical_types.proofs.matches.composite.function_matches.Goals as goal

pub returns-then-results_match : goal.returns-then-results_match
returns-then-results_match c = search rules
