-- The laws and decoders that attributes of readers in crates above cite.
pub use Rattle.wasm_types_values.specs.Laws.{reaches_self, reaches_then}
unfoldable pub use Rattle.wasm_types_values.specs.Laws.{listed_within, repeated}
pub use Rattle.wasm_types_values.proofs.Places.{beyond_0}
