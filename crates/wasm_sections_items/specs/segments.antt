-- Rules: which bytes spell globals and data segments, and how the code has these.
pub mod Spells
pub mod Segments
-- Decoders.
pub mod Decode
-- Rules: which bytes spell tables. Decoders of these, beside them.
pub mod Tables
-- Laws.
pub mod DecodeLaws
pub mod TableLaws
-- Worked rows.
pub mod Worked
