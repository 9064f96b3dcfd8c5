use Rattle.wasm_operator_validator_soundness.proofs.ShownPrograms.{shown_derivations_are_given, runs_fit_what_is_shown}
use Rattle.wasm_operator_validator_soundness.proofs.shown.runs_fit_what_is_shown.Goals as goal

pub returns-clause-given : goal.returns-clause-given
returns-clause-given c = shown_derivations_are_given

pub returns-clause-runs : goal.returns-clause-runs
returns-clause-runs c = runs_fit_what_is_shown
