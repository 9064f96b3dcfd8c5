-- Definitions: what indices mean, and rows as the checks find them.
pub mod Named
pub mod Rows
pub mod Descriptors
pub mod Accesses
