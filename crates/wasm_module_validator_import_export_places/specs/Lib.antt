-- Rules: what rows tell of imports and exports, and of which modules, in reading order.
pub mod Entries
pub mod Listing
-- Definitions: what is found where bytes spell it.
pub mod Finding
pub mod Sections
-- The rules of crates below, under their names: crates above cite them here.
pub use Rattle.wasm_module_validator_rules.specs as rules
