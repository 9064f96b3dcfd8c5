-- The groups of a list of types, and what their ids stand for: definitions, in the order in which they are read.
pub mod Groups
pub mod Formed
pub mod ByIds
pub mod BelowIds
pub mod GroupIds
-- Worked lists.
pub mod Worked
-- Their laws, with the proofs.
pub mod laws
