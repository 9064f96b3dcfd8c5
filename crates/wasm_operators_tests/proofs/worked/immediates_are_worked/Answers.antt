use Rattle.wasm_operators_tests.proofs.ArgumentRows.{arguments}
use Rattle.wasm_operators_tests.proofs.NumberRows.{numbers}
use Rattle.wasm_operators_tests.proofs.ByteRows.{bytes}
use Rattle.wasm_operators_tests.proofs.TypeRows.{types}
use Rattle.wasm_operators_tests.proofs.TableRows.{tables}
use Rattle.wasm_operators_tests.proofs.LabelRows.{labels}
use Rattle.wasm_operators_tests.proofs.worked.immediates_are_worked.Goals as goal

pub returns-clause-arguments : goal.returns-clause-arguments
returns-clause-arguments c = arguments

pub returns-clause-numbers : goal.returns-clause-numbers
returns-clause-numbers c = numbers

pub returns-clause-bytes : goal.returns-clause-bytes
returns-clause-bytes c = bytes

pub returns-clause-types : goal.returns-clause-types
returns-clause-types c = types

pub returns-clause-tables : goal.returns-clause-tables
returns-clause-tables c = tables

pub returns-clause-labels : goal.returns-clause-labels
returns-clause-labels c = labels
