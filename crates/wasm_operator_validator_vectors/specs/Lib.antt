-- Definitions: which types a check names for an operator on vectors.
pub mod Vectors
