-- Definitions: which accesses a memory allows.
pub mod Reaching
-- Definitions: what tables and references are, by cases.
pub mod Tables
-- Definitions: what a global is by its sharedness, and what a choice gives.
pub mod Variables
pub mod Choices
-- Laws: when memory may be wanted.
pub mod RoomLaws
-- Laws: which locals that a body declares have a value.
pub mod DeclaredLaws
-- Laws, with the proofs: what an access takes and gives.
pub mod laws
-- Rules and laws: atomic accesses to memories (the proposal on threads).
pub mod atomics
