-- Definitions: what stood where an attempt began, and what a rollback puts back.
pub mod Kept
