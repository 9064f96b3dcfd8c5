use Rattle.wasm_module_validator_state.specs.invariant.laws.Worked.{worked_nothing, worked_exported, worked_begun, worked_late, worked_names}
use Rattle.wasm_module_validator_state.proofs.invariant.laws.states_are_worked.Goals as goal

pub returns-clause-nothing : goal.returns-clause-nothing
returns-clause-nothing c = worked_nothing

pub returns-clause-exported : goal.returns-clause-exported
returns-clause-exported c = worked_exported

pub returns-clause-begun : goal.returns-clause-begun
returns-clause-begun c = worked_begun

pub returns-clause-late : goal.returns-clause-late
returns-clause-late c = worked_late

pub returns-clause-names : goal.returns-clause-names
returns-clause-names c = worked_names
