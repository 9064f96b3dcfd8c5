-- Rules: how many operands each operator takes and gives, a table, and what the rules say of it.
pub mod Arity
pub mod Exchanges
-- Worked rows of it.
pub mod Worked
-- Laws of the table.
pub mod laws
