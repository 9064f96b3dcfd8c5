-- Definitions: what a module as far as it was read stands for, and which functions code may refer to.
pub mod SoFar
pub mod Referring
pub mod Counts
-- Laws, with the proofs.
pub mod laws
