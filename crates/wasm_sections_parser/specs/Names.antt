-- The decoders of names that attributes of readers cite.
unfoldable pub use Rattle.wasm_types.specs.decoding.Text.{counted_within, text_of}
