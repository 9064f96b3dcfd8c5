-- Rules: what a module that is being read means, over the list that its types stand in.
pub mod Reading
-- Definitions: types without references.
pub mod Bare
-- Definitions: what names of types stand for, and what is asked of a module and its list.
pub mod Named
-- Laws of these, with the proofs.
pub mod laws
-- Rules and laws: constants and the functions that they refer to.
pub mod referring
-- The rules of crates below, under their names: crates above cite them here.
pub use Rattle.wasm_module_validator_index_spaces.specs as index_spaces
pub use Rattle.wasm_module_validator_rules_in_order.specs as rules_in_order
