-- The rules of crates below, under their names: crates above cite them here.
pub use Rattle.wasm_operators_visit_operator.specs as visit_operator
