pub mod Places
pub mod Splits
pub mod Chunks
pub mod Halves
pub mod Rows
pub mod WorkedProofs
pub mod Chains
pub mod Ancestors
pub mod Filling
mod DisplayRows
