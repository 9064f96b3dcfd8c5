-- Rules: sections, their ids, places and items.
pub mod Sections
-- Rules: when an item may be added, and when a section may begin.
pub mod Adding
-- Rules: which bytes stand for items.
pub mod Texts
-- Rules: what each frame does.
pub mod Steps
-- Bytes that stand from one offset to another, with laws.
pub mod Between
pub mod BetweenLaws
-- Worked items, sections and frames.
pub mod Worked
-- Laws, with the proofs.
pub mod laws
-- Definitions and laws: an item is judged where it stands as in the whole module.
pub mod contexts
-- The rules of crates below, under their names: crates above cite them here.
pub use Rattle.wasm_module_validator_rules.specs as rules
