-- The rules of crates below, under their names: crates above cite them here.
pub use Rattle.wasm_operators_visit.specs as visit
