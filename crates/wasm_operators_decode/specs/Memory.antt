-- Which operators keep a list in memory, by the kinds of their immediates. Reading any other operator takes no memory.
use Rattle.std.specs.Prelude.{Bool, true, false, ◌||◌, List, [], ◌∷◌, Option, Some, None}
use Rattle.wasm_types.specs.decoding.Decoder.{State, Outcome, Done, Short, Fault}
use Rattle.wasm_operators_immediates.specs.Kinds as kind
use Rattle.wasm_operators_immediates.specs.Kinds.{Kind}
use Rattle.wasm_operators_encoding.specs.Opcodes.{Opcode, opcode}
use Rattle.wasm_operators_encoding.specs.Coded.{kinds_at}

-- the kinds that are kept as a list
abbrev pub is_list : Kind → Bool
is_list kind.ValueTypes = true
is_list kind.TryTable = true
is_list kind.Handlers = true
is_list k = false

-- one of them is
abbrev pub has_list : List Kind → Bool
has_list [] = false
has_list (k ∷ ks) = is_list k || has_list ks

-- what was found behind an opcode
abbrev pub keeps_list : Option (List Kind) → Bool
keeps_list None = false
keeps_list (Some ks) = has_list ks

-- the operator with the opcode that was read keeps a list; where none was read, none does
abbrev pub keeps_list_behind : Outcome Opcode → Bool
keeps_list_behind (Done o t) = keeps_list (kinds_at o)
keeps_list_behind (Short p h) = false
keeps_list_behind (Fault k p) = false

-- the operator that begins here keeps a list
abbrev pub keeps_list_at : State → Bool
keeps_list_at s = keeps_list_behind (opcode s)
