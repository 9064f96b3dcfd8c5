use Rattle.std.proofs.Common.{rules}
use Rattle.wasm_module_validator_checks.proofs.sections.state.State.take.Goals as goal

pub returns-then-not-is_in_turn-clause-kept : goal.returns-then-not-is_in_turn-clause-kept
returns-then-not-is_in_turn-clause-kept c = search rules

pub returns-clause-taken : goal.returns-clause-taken
returns-clause-taken c = search rules
