-- Rules: operands as codes, what packed tables say, what bytes spell as codes, and what a loop over operators promises.
pub mod Stacks
pub mod Nested
pub mod Values
pub mod Tables
pub mod Known
pub mod Loop
pub mod Written
