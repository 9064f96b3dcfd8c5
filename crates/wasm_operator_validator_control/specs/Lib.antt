-- Definitions: what steps of the checks do.
pub mod Jumps
pub mod Opening
pub mod Ending
-- Definitions: how operands fit several labels, and what a call may name.
pub mod Fitting
pub mod Callees
pub mod Nulls
pub mod Clauses
-- Laws, with the proofs: how a check's promise follows from its steps.
pub mod laws
