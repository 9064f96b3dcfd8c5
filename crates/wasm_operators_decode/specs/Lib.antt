-- Definitions: which operators keep a list in memory, and which groups are asked last for a code.
pub mod Memory
pub mod Plain
-- Definitions that contracts cite: what stands behind the opcodes of each group, by shape.
pub mod Atomic
pub mod Shared
-- Definitions that contracts cite: what stands behind the opcodes of each group, by shape.
pub mod Simd
pub mod SimdNumeric
