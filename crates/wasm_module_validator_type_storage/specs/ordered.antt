-- Definitions: numbers in order beside what is sought.
pub mod Order
-- Laws: what was added, and what stays as it was.
pub mod OrderLaws
-- Definitions: how they lie in memory.
pub mod Chunks
-- Worked lists.
pub mod Worked
