-- Definitions that contracts cite: what stands behind the opcodes of each group, by shape.
pub mod Bulk
pub mod BulkPlain
pub mod Const
pub mod Memory
