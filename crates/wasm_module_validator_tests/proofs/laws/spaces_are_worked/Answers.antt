use Rattle.wasm_module_validator_tests.specs.AddedLaws.{spaces_added, spaces_marked, contexts_added, contexts_refer, modules_mean}
use Rattle.wasm_module_validator_tests.proofs.laws.spaces_are_worked.Goals as goal

pub returns-clause-added : goal.returns-clause-added
returns-clause-added c = spaces_added

pub returns-clause-marked : goal.returns-clause-marked
returns-clause-marked c = spaces_marked

pub returns-clause-contexts : goal.returns-clause-contexts
returns-clause-contexts c = contexts_added

pub returns-clause-references : goal.returns-clause-references
returns-clause-references c = contexts_refer

pub returns-clause-meanings : goal.returns-clause-meanings
returns-clause-meanings c = modules_mean
