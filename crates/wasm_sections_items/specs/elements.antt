-- Rules: which bytes spell element segments, and how the code has these.
pub mod Spells
pub mod Elements
-- Decoders.
pub mod Decode
pub mod Passing
-- Laws.
pub mod DecodeLaws
pub mod PassingLaws
pub mod WholeLaws
-- Worked rows.
pub mod Worked
