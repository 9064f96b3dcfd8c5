-- Rules and laws: visits of vectors of bytes and of 16-bit integers.
pub mod narrow
-- Rules and laws: visits of vectors of 32-bit and 64-bit integers.
pub mod wide
