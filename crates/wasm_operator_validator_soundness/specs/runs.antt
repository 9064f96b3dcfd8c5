-- Rules: how modules run, and that they are never stuck, in the order in which they are read.
pub mod Values
pub mod States
pub mod Names
pub mod Machine
pub mod Notes
pub mod ValidStates
pub mod Soundness
pub mod Places
pub mod Progress
-- Worked runs, and states that are stuck.
pub mod worked
