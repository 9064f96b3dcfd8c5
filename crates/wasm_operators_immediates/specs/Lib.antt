-- Rules: what operators carry, and by what kinds bytes are read.
pub mod Kinds
pub mod Immediates
pub mod Tables
pub mod Numbers
-- Rules: which bytes spell labels, block types, clauses and handlers. Decoders of these, beside them.
pub mod Labels
pub mod Blocks
pub mod Handlers
-- Laws.
pub mod TableLaws
pub mod LabelLaws
pub mod BlockLaws
pub mod HandlerLaws
pub mod Laws
-- The laws that attributes of readers cite, which take a file's own names alone.
pub mod Reaching
-- Rules: what is told of an operator.
pub mod Info
