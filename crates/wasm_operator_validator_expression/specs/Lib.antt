-- Rules: which bytes a validator accepts as an expression, and why it refuses others; what has no operators on vectors.
pub mod Validating
pub mod Unasked
-- Laws, with the proofs: how that follows from the visits of the operators.
pub mod laws
