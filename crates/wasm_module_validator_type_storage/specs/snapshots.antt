-- Definitions: what a list of snapshots holds.
pub mod Pieces
-- Worked lists.
pub mod Worked
