-- Definitions: what it is of a context that a judgement looks at.
pub mod Agreement
-- Definitions: modules that are valid as they are read.
pub mod InOrder
-- Laws, with the proofs.
pub mod laws
