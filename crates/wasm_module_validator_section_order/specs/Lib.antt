-- Rules and laws: the items of a section, checked and added one by one to what was read before them.
pub mod items
-- Rules and laws: sections as they are read item by item, and the trees that the same bytes spell.
pub mod sections
-- Rules and laws: the frames that a parser gave so far, beside those of the module that the bytes spell.
pub mod frames
-- The rules of crates below, under their names: crates above cite them here.
pub use Rattle.wasm_module_validator_rules_in_order.specs.rules as rules
pub use Rattle.wasm_module_validator_rules_in_order.specs as rules_in_order
pub use Rattle.wasm_sections.specs as sections_below
