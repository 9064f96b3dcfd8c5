-- Rules: which bytes give what is read of items, and which spell items.
pub mod Grammars
-- Rules: whole sections, what readers of items add to a module, and what it is for the section to be judged.
pub mod Sections
-- Definitions: what the readers of each kind of section give.
pub mod Kinds
-- Laws, with the proofs.
pub mod laws
