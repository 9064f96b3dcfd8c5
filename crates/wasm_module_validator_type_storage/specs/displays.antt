-- Definitions: supertypes one above the other, and where ancestors are found.
pub mod Chains
pub mod Entries
-- Worked rows.
pub mod Worked
