use Rattle.wasm_operator_validator_tests.specs.CountLaws.{references_counted, aggregates_counted, descriptors_counted, exceptions_counted, shared_counted, continuations_counted}
use Rattle.wasm_operator_validator_tests.proofs.laws.further_counts_are_worked.Goals as goal

pub returns-clause-references : goal.returns-clause-references
returns-clause-references c = references_counted

pub returns-clause-aggregates : goal.returns-clause-aggregates
returns-clause-aggregates c = aggregates_counted

pub returns-clause-descriptors : goal.returns-clause-descriptors
returns-clause-descriptors c = descriptors_counted

pub returns-clause-exceptions : goal.returns-clause-exceptions
returns-clause-exceptions c = exceptions_counted

pub returns-clause-shared_accesses : goal.returns-clause-shared_accesses
returns-clause-shared_accesses c = shared_counted

pub returns-clause-continuations : goal.returns-clause-continuations
returns-clause-continuations c = continuations_counted
