-- Rules: which bytes spell imports and exports.
pub mod Spells
-- Decoders.
pub mod Decode
-- Laws.
pub mod DecodeLaws
-- Worked rows.
pub mod Worked
