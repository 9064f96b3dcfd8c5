-- Rules: what contracts see of a module that was read, and what its imports and exports are.
pub mod Shown
pub mod Entities
-- Worked rows.
pub mod laws
