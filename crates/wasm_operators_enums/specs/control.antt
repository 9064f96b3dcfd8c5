-- Rules: operators that keep lists, as plain trees.
pub mod Trees
-- Rules: rows of the tables of opcodes and of immediates.
pub mod Table
pub mod Immediates
