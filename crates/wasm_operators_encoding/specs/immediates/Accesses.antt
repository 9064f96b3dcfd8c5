-- Which accesses may name an ordering, as the table of immediates has it.
use Rattle.wasm_operators_immediates.specs.Kinds as kind
use Rattle.wasm_operators_encoding.specs.declared.immediates.memory_argument.Access.{Access}
use Rattle.wasm_operators_encoding.specs.declared.immediates.memory_argument.Access.TheVariants.{Plain, Atomic, ReadModifyWrite}

-- the same three kinds of access, in the words of the table
abbrev pub access_of : Access → kind.AccessOrdering
access_of Plain = kind.Plain
access_of Atomic = kind.Atomic
access_of ReadModifyWrite = kind.ReadModifyWrite
