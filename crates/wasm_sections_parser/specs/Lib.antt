-- Rules: what comes next where a parser stands, and what a call answers. `Steps` has the decoders too.
pub mod Parsers
pub mod Steps
pub mod Places
pub mod Needs
pub mod Parsing
pub mod Settled
-- Laws.
pub mod SettledLaws
pub mod StepLaws
pub mod PlaceLaws
pub mod Names
-- Worked rows.
pub mod Worked
-- Rules and laws: what a parser gives of a module is what its bytes spell.
pub mod runs
-- The rules of crates below, under their names: crates above cite them here.
pub use Rattle.wasm_sections_items.specs as items
