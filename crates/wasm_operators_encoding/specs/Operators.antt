-- Operators and the bytes that spell them (WebAssembly 3.0, binary format, instructions).
use Rattle.std.specs.Prelude.{◌≡◌, IsTrue, ℕ, List, ◌++◌}
use Rattle.wasm_types.specs.settings.Settings.{Settings}
use Rattle.wasm_operators_enums.specs.Op.{Op}
use Rattle.wasm_operators_enums.specs.Table.{info_of}
use Rattle.wasm_operators_enums.specs.Immediates.{immediates_of, is_canonical}
use Rattle.wasm_operators_encoding.specs.Opcodes.{Opcode, SpelledOpcode}
use Rattle.wasm_operators_encoding.specs.Sequences.{SpelledImmediates}
use Rattle.wasm_operators_encoding.specs.Coded.{Coded}

-- an operator's opcode, by the table of opcodes
abbrev pub opcode_of : Op → Opcode
opcode_of o = record { prefix = (info_of o).prefix; code = (info_of o).code }

-- an operator's opcode and immediates
abbrev pub coded_of : Op → Coded
coded_of o = record { opcode = opcode_of o; carried = immediates_of o }

-- standard: binary-instr: instr, without its block
-- an operator in the form that bytes give it, its opcode's bytes, and those of its immediates
pub record SpelledOperator (settings : Settings) (o : Op) (text : List ℕ) : Type 0 where
  pub canonical : IsTrue (is_canonical o)
  pub front : List ℕ
  pub back : List ℕ
  pub opcode : SpelledOpcode (opcode_of o) front
  pub carried : SpelledImmediates settings (immediates_of o) back
  pub whole : text ≡ front ++ back
