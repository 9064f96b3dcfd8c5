-- The laws that attributes of readers in crates above cite.
pub use Rattle.wasm_types.specs.Laws.{reaches_self, reaches_then}
