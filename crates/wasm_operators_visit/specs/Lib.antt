-- Definitions: which operators keep a list in memory.
pub mod Memory
-- Rules and laws: visits of operators of control, of those that take operands of any type, of exceptions and of continuations.
pub mod control
