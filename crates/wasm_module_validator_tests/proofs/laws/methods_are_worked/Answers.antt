use Rattle.wasm_module_validator_tests.specs.MethodLaws.{turns, headers_read, sections_taken, ends_rows, known, answers, payloads_taken}
use Rattle.wasm_module_validator_tests.proofs.laws.methods_are_worked.Goals as goal

pub returns-clause-turns : goal.returns-clause-turns
returns-clause-turns c = turns

pub returns-clause-headers : goal.returns-clause-headers
returns-clause-headers c = headers_read

pub returns-clause-sections : goal.returns-clause-sections
returns-clause-sections c = sections_taken

pub returns-clause-ends : goal.returns-clause-ends
returns-clause-ends c = ends_rows

pub returns-clause-known : goal.returns-clause-known
returns-clause-known c = known

pub returns-clause-answers : goal.returns-clause-answers
returns-clause-answers c = answers

pub returns-clause-payloads : goal.returns-clause-payloads
returns-clause-payloads c = payloads_taken
