-- Rules: a module as its frames, their order and counts.
pub mod Outer
-- Decoders.
pub mod Decode
-- Laws.
pub mod PartLaws
pub mod OuterLaws
-- Worked rows.
pub mod Worked
