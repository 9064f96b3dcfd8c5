-- The laws and decoders that attributes of readers cite, which take a file's own names alone.
pub mod Laws
-- Rules: types as plain trees, which bytes spell them, how they are written, copied and remapped.
pub mod Entries
pub mod Spells
pub mod Kinds
pub mod Text
pub mod Copies
pub mod Remap
-- Rules: which bytes spell the values that decoders answer.
pub mod SpellsTypes
-- Decoders.
pub mod DecodeTypes
pub mod Places
-- Laws, and worked groups.
pub mod TypeLaws
pub mod GroupsLaws
pub mod SpellsLaws
pub mod TreeLaws
pub mod IndexLaws
pub mod WorkedGroupLaws
-- The rules, decoders and laws of the crates of this layer, each under the crate's name: crates of other layers cite them here.
pub use Rattle.wasm_types_settings.specs as settings
pub use Rattle.wasm_types_decoding.specs as decoding
pub use Rattle.wasm_types_reader.specs as reader
pub use Rattle.wasm_types_trees.specs as trees
pub use Rattle.wasm_types_values.specs as values
pub use Rattle.wasm_types_fields.specs as fields
pub use Rattle.wasm_types_externs.specs as externs
