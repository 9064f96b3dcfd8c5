-- The laws and decoders that attributes of readers in crates above cite.
pub use Rattle.wasm_types_decoding.specs.Laws.{reaches_self, reaches_then}
unfoldable pub use Rattle.wasm_types_decoding.specs.Lists.{listed_within}
unfoldable pub use Rattle.wasm_types_decoding.specs.Decoder.{repeated}
