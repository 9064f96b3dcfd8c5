-- Definitions: what is added to a module as far as it was read, and which items may be.
pub mod Adding
pub mod Items
-- Definitions: the context of the rules with an item more.
pub mod Contexts
-- Laws of both, with the proofs.
pub mod laws
-- Rules and laws: the state of a module that is being read stands for the tree of what was read.
pub mod invariant
-- The rules of crates below, under their names: crates above cite them here.
pub use Rattle.wasm_module_validator_resources.specs as resources
