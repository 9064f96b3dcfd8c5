-- Rules: one activation is sound, in the order in which they are read.
pub mod Values
pub mod States
pub mod Labels
pub mod Machine
pub mod Soundness
pub mod Beginning
-- Worked values, runs and stuck configurations: rows that hold and rows that do not.
pub mod worked
-- Rules: what is accepted as a body is never stuck.
pub mod accepted
-- Rules and laws: no run of a valid program is stuck.
pub mod runs
-- Rules: what a validator shows is a typing, and the values of runs fit it.
pub mod shown
