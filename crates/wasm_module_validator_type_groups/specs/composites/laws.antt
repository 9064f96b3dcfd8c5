-- What the functions of src/laws.rt promise.
pub mod Statements
-- The proofs, for the crates above: nobody needs them to understand a rule.
pub mod Validity
