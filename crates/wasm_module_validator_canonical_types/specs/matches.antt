-- Rules: matching over ids.
pub mod MatchesById
-- Worked types.
pub mod Worked
-- Laws, with the proofs.
pub mod laws
