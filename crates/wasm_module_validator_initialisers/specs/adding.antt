-- Definitions: items as they are read, and what they name.
pub mod Read
-- Definitions: why items are refused, and where.
pub mod Refusals
-- Definitions: globals that their bytes alone tell.
pub mod Short
-- Worked rows.
pub mod Worked
