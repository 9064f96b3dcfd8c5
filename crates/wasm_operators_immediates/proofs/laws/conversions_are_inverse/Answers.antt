use Rattle.wasm_operators_immediates.proofs.Bytes.{back_again, bytes_again}
use Rattle.wasm_operators_immediates.proofs.laws.conversions_are_inverse.Goals as goal

pub returns-clause-numbers : goal.returns-clause-numbers
returns-clause-numbers c = back_again

pub returns-clause-bytes : goal.returns-clause-bytes
returns-clause-bytes c = bytes_again
