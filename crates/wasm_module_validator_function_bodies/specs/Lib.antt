-- Rules: the locals of a body, and its function, in the order in which they are read.
pub mod Locals
pub mod Functions
-- Definitions: the beginning of a body that is judged in one loop.
pub mod Plain
-- Definitions: what an attempt leaves, and what is lent.
pub mod Trying
pub mod Lent
-- Laws, with the proofs: how a validation's promise follows from its steps. `WorkedLocals` there has worked rows.
pub mod laws
-- Rules, laws and worked rows: the bodies of a module, one after the other.
pub mod code
