-- Definitions: an operator that was read at an offset and told.
pub mod Short
-- Rules and laws: the frequent operators, read from their first byte.
pub mod reading
-- The rules of crates below, under their names: crates above cite them here.
pub use Rattle.wasm_operators_visit.specs as visit
pub use Rattle.wasm_operators_visit_operator.specs as visit_operator
