-- Definitions that contracts cite: what stands behind the opcodes of each group, by shape.
pub mod Control
pub mod Parametric
pub mod Exception
pub mod Continuation
-- Definitions that contracts cite: what stands behind the opcodes of each group, by shape.
pub mod Descriptor
pub mod Gc
