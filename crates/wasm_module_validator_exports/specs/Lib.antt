-- Definitions: what imports become by ids.
pub mod Imports
-- Definitions: sums of sizes.
pub mod Sizes
-- Rules and worked rows: what is kept of both, by their names.
pub mod names
