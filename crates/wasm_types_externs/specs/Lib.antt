-- Rules: what contracts cite, and which bytes spell these types.
pub mod Addresses
pub mod Spells
-- Decoders.
pub mod Decode
-- Laws.
pub mod DecodeLaws
-- Worked rows.
pub mod Worked
pub mod WorkedReading
