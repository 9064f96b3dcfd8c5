-- This crate has no rules of its own: those of its parts stand with the parts.
-- Laws of visitors that are lent.
pub mod LendingLaws
