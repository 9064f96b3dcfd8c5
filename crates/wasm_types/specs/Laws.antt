-- The laws and decoders that attributes of readers in other layers cite.
pub use Rattle.wasm_types_decoding.specs.Laws.{reaches_self, reaches_then}
unfoldable pub use Rattle.wasm_types_decoding.specs.Lists.{listed_within}
