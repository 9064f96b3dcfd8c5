use Rattle.std.proofs.Common.{rules}
use Rattle.wasm_module_validator_type_groups.proofs.supertypes.check_supertype.Goals as goal

pub returns-then-not-types_match-clause-answer : goal.returns-then-not-types_match-clause-answer
returns-then-not-types_match-clause-answer c = search rules

pub returns-clause-answer : goal.returns-clause-answer
returns-clause-answer c = search rules

pub returns-then-not-is_within_depth-clause-at : goal.returns-then-not-is_within_depth-clause-at
returns-then-not-is_within_depth-clause-at c = search rules
