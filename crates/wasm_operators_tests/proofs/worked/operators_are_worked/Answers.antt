use Rattle.wasm_operators_tests.proofs.PlainRows.{plain}
use Rattle.wasm_operators_tests.proofs.PrefixedRows.{prefixed}
use Rattle.wasm_operators_tests.proofs.worked.operators_are_worked.Goals as goal

pub returns-clause-plain : goal.returns-clause-plain
returns-clause-plain c = plain

pub returns-clause-prefixed : goal.returns-clause-prefixed
returns-clause-prefixed c = prefixed
