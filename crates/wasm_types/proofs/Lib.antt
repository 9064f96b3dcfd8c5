pub use Rattle.wasm_types_reader.proofs.Rows
pub mod Equality
pub mod Copies
pub mod Counts
pub mod Values
pub mod Places
pub mod Remapping
