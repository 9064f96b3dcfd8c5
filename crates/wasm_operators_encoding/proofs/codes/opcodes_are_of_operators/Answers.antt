use Rattle.wasm_operators_encoding.specs.codes.CodedOperators.{is_coded, read_is_coded}
use Rattle.wasm_operators_encoding.proofs.codes.opcodes_are_of_operators.Goals as goal

pub returns-clause-coded : goal.returns-clause-coded
returns-clause-coded c = is_coded

pub returns-clause-read : goal.returns-clause-read
returns-clause-read c = read_is_coded
