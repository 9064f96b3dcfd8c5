-- The rules of crates below, under their names: crates above cite them here.
pub use Rattle.wasm_operator_validator_visits.specs.arity as arity
