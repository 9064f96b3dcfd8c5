-- Operators on numbers: what each carries behind its opcode,
-- in the order of the bytes (WebAssembly 3.0, binary format, instructions, and the proposals).
use Rattle.std.specs.Prelude.{List, []}
use Rattle.wasm_operators_immediates.specs.Immediates.{Immediate}
use Rattle.wasm_operators_enums.specs.declared.numeric.NumericOperator.{NumericOperator}

-- standard: binary-instr-numeric: nothing follows an opcode
-- none carries anything
abbrev pub numeric_immediates : NumericOperator → List Immediate
numeric_immediates o = []
