-- What rows are made of: operands that are taken and given, what the table says, and labels (WebAssembly 3.0, validation,
-- instructions).
use Rattle.std.specs.Prelude.{◌≡◌, ℕ, List, Some, slice_get}
use Rattle.wasm_operators_enums.specs.Op.{Op}
use Rattle.wasm_operator_validator_rules.specs.Operands.{ValueType, Operand, all_known}
use Rattle.wasm_operator_validator_rules.specs.Context.{Context}
use Rattle.wasm_operator_validator_rules.specs.InstructionTypes.{InstructionType, instruction_type}

-- standard: valid-instr: an instruction type t* -> u*
-- operands of these types are taken, and of those are given
abbrev pub Takes : List ValueType → List ValueType → List Operand → List Operand → Type 0
Takes ts us popped pushed = (popped ≡ all_known ts) × (pushed ≡ all_known us)

-- standard: valid-instr: an instruction type of the table
-- what the table says, if it says something
abbrev pub TableRow : Context → Op → List Operand → List Operand → Type 0
TableRow g o popped pushed = (t : InstructionType) × (instruction_type g o ≡ Some t) × Takes t.takes t.gives popped pushed

-- standard: valid-context: C.labels[l]
-- what a branch to a label takes
abbrev pub IsLabel : Context → ℕ → List ValueType → Type 0
IsLabel g l ts = slice_get g.labels l ≡ Some ts
