-- What the functions of src/matches/laws.rt promise.
pub mod Statements
-- The proofs, for the crates above: nobody needs them to understand a rule.
pub mod Known
pub mod Matching
