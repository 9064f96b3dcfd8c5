-- Rules: states, outcomes and grammars; how a decoder decides a grammar; which bytes spell numbers, lists and names.
-- The decoders of these stand in the same files, each beside its grammar.
pub mod Decoder
pub mod Leb
pub mod Lists
pub mod Text
-- Rules: what a refusal's offset is.
pub mod Places
-- Worked bytes.
pub mod Rows
-- Laws: of outcomes, that decoders read just what the grammars spell, where refusals stand, and that the rows come out so.
pub mod Laws
pub mod ExactLaws
pub mod PlaceLaws
pub mod LebLaws
pub mod SignedLaws
pub mod ListLaws
pub mod TextLaws
pub mod RowLaws
-- Definitions: numbers and their flaws at an offset in a slice, with their decoders.
pub mod Numbers
-- The laws and decoders that attributes of readers cite, which take a file's own names alone.
pub mod NumbersLaws
-- Definitions: an error's value, its text, what an answer tells of a fact.
pub mod ErrorValue
pub mod ErrorText
pub mod Words
pub mod Texts
pub mod Denials
-- Worked errors.
pub mod ErrorRows
-- Laws.
pub mod DenialLaws
pub mod ErrorRowLaws
-- The rules of crates below, under their names: crates above cite them here.
pub use Rattle.wasm_types_settings.specs as settings
