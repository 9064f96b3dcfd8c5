-- Rules, decoders, laws and worked rows of imports and exports.
pub mod imports
-- Rules, decoders, laws and worked rows of globals, tables and data segments. `Tables` has rules and decoders in one file.
pub mod segments
-- Rules, decoders, laws and worked rows of element segments.
pub mod elements
-- Rules and laws: modules as frames.
pub mod frames
-- Rules and laws: the contents of a section as a count and as many items.
pub mod limited
