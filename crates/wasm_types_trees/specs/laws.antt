-- What the functions of src/laws.rt promise.
pub mod Statements
-- The proofs, for the crates above: nobody needs them to understand a rule.
pub mod Types
pub mod Trees
pub mod Unfold
pub mod Abstract
pub mod Below
pub mod Matches
pub mod Standard
pub mod Valid
