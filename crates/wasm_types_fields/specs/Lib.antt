-- Rules: types as plain trees, which bytes spell them, how they are written and remapped.
pub mod Signatures
pub mod Fields
pub mod Remap
pub mod Text
pub mod Spells
-- Decoders.
pub mod Decode
-- Laws, and worked fields.
pub mod SignatureLaws
pub mod DecodeLaws
pub mod WorkedFieldLaws
-- The laws and decoders that attributes of readers cite, which take a file's own names alone.
pub mod Laws
