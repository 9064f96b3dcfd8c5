use Rattle.std.proofs.Common.{sym}
use Rattle.wasm_operator_validator_fast_tables.proofs.Defining.{function_around, struct_around, array_around}
use Rattle.wasm_operator_validator_fast_tables.proofs.naming.step_around.Goals as goal

pub returns-in-Function : goal.returns-in-Function
returns-in-Function c = λ ids fields inner h. function_around ids fields inner c.args.defined h (sym c.in-Function.is)

pub returns-in-Struct : goal.returns-in-Struct
returns-in-Struct c = λ ids fields inner h. struct_around ids fields inner c.args.defined h c.in-Struct.field-0 c.in-Struct.field-1 (sym c.in-Struct.is)

pub returns-in-Array : goal.returns-in-Array
returns-in-Array c = λ ids fields inner h. array_around ids fields inner c.args.defined h c.in-Array.field-0 (sym c.in-Array.is)
