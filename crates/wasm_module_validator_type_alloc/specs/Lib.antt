-- Definitions: how much there is to visit in a type, what is held, and what is lent.
pub mod Sizes
pub mod Held
pub mod Lent
-- Definitions: what an index of a group means in a list.
pub mod Canonicalized
-- Worked rows.
pub mod Worked
-- Laws, with the proofs.
pub mod ListedLaws
