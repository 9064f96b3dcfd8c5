-- Definitions: what is known of the locals, and how it lies in memory.
pub mod Inits
pub mod Marks
