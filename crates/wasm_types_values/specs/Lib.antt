-- Rules: types as what they mean and as plain trees, which bytes spell them, how they are written, ordered and remapped.
pub mod Reference
pub mod Kinds
pub mod ValueKinds
pub mod Trees
pub mod Values
pub mod Spells
pub mod Spelled
pub mod Text
pub mod ValueText
pub mod Order
pub mod Constants
pub mod Remap
-- Definitions: how a reference lies in its bits.
pub mod Bits
-- Decoders.
pub mod Decode
pub mod DecodeValues
-- Laws, among them that each decoder reads just what the rules spell, and worked types.
pub mod Laws
pub mod TieLaws
pub mod DecodeLaws
pub mod HeapLaws
pub mod ReferenceLaws
pub mod ValueLaws
pub mod RemapLaws
pub mod WorkedTypeLaws
-- The rules of crates below, under their names: crates above cite them here.
pub use Rattle.wasm_types_reader.specs.decoding as decoding
pub use Rattle.wasm_types_reader.specs as reader
pub use Rattle.wasm_types_reader.specs.settings as settings
pub use Rattle.wasm_types_trees.specs as types_trees
