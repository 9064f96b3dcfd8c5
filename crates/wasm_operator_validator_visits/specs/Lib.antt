-- Definitions: what a visit that answers an error promises.
pub mod Told
-- The rules of crates below, under their names: crates above cite them here.
pub use Rattle.wasm_operator_validator_arity.specs as arity
