-- The rules of operators: definitions, in the order in which they are read.
pub mod Operands
pub mod Context
pub mod Named
pub mod Numbers
pub mod Accesses
pub mod Vectors
pub mod Aggregates
pub mod Places
pub mod InstructionTypes
pub mod Taken
pub mod Exceptions
pub mod Objects
pub mod Descriptors
pub mod SharedAccesses
pub mod Continuations
pub mod Row
pub mod Typed
-- Worked operators: rows that hold and rows that do not, a pair at least for each kind.
pub mod worked
-- Rules, laws and worked rows: how many operands each operator takes and gives.
pub mod arity
-- Rules and worked rows: which operators and expressions are constant.
pub mod constants
-- Laws of the rules.
pub mod NameLaws
