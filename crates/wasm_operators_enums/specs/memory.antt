-- Rules: rows of the tables of opcodes and of immediates.
pub mod Table
pub mod Immediates
