-- Definitions: what look-ups by ids mean, and what is known of an operator.
pub mod Knowing
-- Laws: answers beside the rules.
pub mod laws
-- Definitions: numbers of operands where they are fixed.
pub mod fixed
-- The rules of crates below, under their names: crates above cite them here.
pub use Rattle.wasm_operator_validator_resources.specs as resources
