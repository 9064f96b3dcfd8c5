-- Definitions: locals as runs of one type, and what a refusal is.
pub mod Locals
-- Definitions: a stack that can take back what was done to it since a moment.
pub mod tape
-- Definitions: which locals are initialised.
pub mod inits
-- Rules and laws: labels of a table that were met.
pub mod labels
