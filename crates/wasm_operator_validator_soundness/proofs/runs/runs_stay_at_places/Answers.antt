use Rattle.wasm_operator_validator_soundness.proofs.Placing.{derivations_given, stays_at_places}
use Rattle.wasm_operator_validator_soundness.proofs.runs.runs_stay_at_places.Goals as goal

pub returns-clause-given : goal.returns-clause-given
returns-clause-given c = derivations_given

pub returns-clause-stays : goal.returns-clause-stays
returns-clause-stays c = stays_at_places
