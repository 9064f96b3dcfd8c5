-- Definitions: operators by what their checks begin with, and what a function may use.
pub mod Operators
-- Laws, with the proofs: how a check's promise follows from its steps.
pub mod laws
-- Definitions: operators on numbers, and constants.
pub mod numbers
