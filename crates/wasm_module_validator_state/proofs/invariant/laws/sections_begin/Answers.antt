use Rattle.wasm_module_validator_state.specs.invariant.laws.Beginning.{unread_is_last, section_begins}
use Rattle.wasm_module_validator_state.proofs.invariant.laws.sections_begin.Goals as goal

pub returns-clause-last : goal.returns-clause-last
returns-clause-last c = unread_is_last

pub returns-clause-reading : goal.returns-clause-reading
returns-clause-reading c = section_begins
