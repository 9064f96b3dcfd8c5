-- What the functions of src/trees/laws.rt promise.
pub mod Statements
-- The proofs, for the crates above: nobody needs them to understand a rule.
pub mod Unrolled
pub mod Apart
pub mod Ids
pub mod BelowIds
pub mod GroupIds
