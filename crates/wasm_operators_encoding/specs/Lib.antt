-- Rules: immediates one after the other, opcodes, and which kinds stand behind a code. Decoders of the first two stand beside them.
-- `Rows` and `KeptRows` are not worked rows, but speak of those of the table of opcodes; `KeptRows` has laws of them too.
pub mod Sequences
pub mod Opcodes
pub mod Rows
pub mod KeptRows
pub mod Groups
-- Rules: which bytes spell an operator, with the decoders in `Coded`.
pub mod Coded
pub mod Operators
-- Rules: groups of locals, with their decoder; expressions whose only `end` is the last operator.
pub mod Locals
pub mod Ends
-- Decoders: how constant expressions are read.
pub mod Until
pub mod ConstantDecoder
-- Laws.
pub mod SequenceLaws
pub mod OpcodeLaws
pub mod CodedLaws
pub mod RowLaws
pub mod TableLaws
pub mod OperatorLaws
pub mod LocalsLaws
pub mod UntilLaws
pub mod ConstantDecoderLaws
-- Rules and laws: what operators of WebAssembly carry besides their opcode, from bytes.
pub mod immediates
-- Rules and laws: opcodes with immediates as operators.
pub mod codes
-- Rules and laws: expressions of WebAssembly.
pub mod expressions
