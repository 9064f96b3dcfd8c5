use Rattle.wasm_operator_validator_fast_tables.proofs.Writing.{top_function, top_struct, top_array}
use Rattle.wasm_operator_validator_fast_tables.proofs.written.top_of.Goals as goal

pub returns-in-Function : goal.returns-in-Function
returns-in-Function c = rw c.in-Function.is top_function

pub returns-in-Struct : goal.returns-in-Struct
returns-in-Struct c = rw c.in-Struct.is (top_struct c.in-Struct._from c.in-Struct._count)

pub returns-in-Array : goal.returns-in-Array
returns-in-Array c = rw c.in-Array.is (top_array c.in-Array._element)
