-- Rules: what is kept of exports, and which names are taken.
pub mod Exports
-- Definitions: names one after the other.
pub mod Kept
-- Rules: what is kept of imports, by their names.
pub mod Imports
-- Worked rows.
pub mod laws
