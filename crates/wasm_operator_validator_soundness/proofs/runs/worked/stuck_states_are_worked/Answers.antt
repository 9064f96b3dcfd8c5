use Rattle.wasm_operator_validator_soundness.proofs.RunsWorkedStuck.{places_worked, stuck_worked}
use Rattle.wasm_operator_validator_soundness.proofs.runs.worked.stuck_states_are_worked.Goals as goal

pub returns-clause-stuck : goal.returns-clause-stuck
returns-clause-stuck c = stuck_worked

pub returns-clause-places : goal.returns-clause-places
returns-clause-places c = places_worked
