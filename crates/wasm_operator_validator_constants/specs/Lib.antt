-- Rules: expressions whose operators are tested before they are validated, and constants, in the order in which they are read.
pub mod Tested
pub mod Refusals
pub mod Operators
pub mod Beginning
pub mod Checked
-- Laws, with the proofs.
pub mod laws
-- The rules of crates below, under their names: crates above cite them here.
pub use Rattle.wasm_operator_validator_driver.specs.arity as arity
pub use Rattle.wasm_operator_validator_expression.specs as expression
