-- Proofs: classes of one code, and where steps end.
pub mod Classes
pub mod Settling
